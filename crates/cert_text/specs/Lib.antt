pub mod CertificateText
pub mod Shown
pub mod BadLine
pub mod Candidate
pub mod TextLaws
pub mod FeasibilityText
