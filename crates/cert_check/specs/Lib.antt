-- What a verdict says of a certificate:
pub mod Verdict
pub mod VerdictLaws
-- In the code: the verdict on a sum:
pub mod SumVerdict
