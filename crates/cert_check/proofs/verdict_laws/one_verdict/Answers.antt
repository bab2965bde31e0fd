use Rattle.cert_check.proofs.Verdicts.{one_verdict}
use Rattle.cert_check.proofs.verdict_laws.one_verdict.Goals as goal

pub returns : goal.returns
returns c = one_verdict
