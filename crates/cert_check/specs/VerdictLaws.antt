-- What holds of verdicts.
use Rattle.std.specs.Prelude.{◌≡◌}
use Rattle.theory.specs.Network.{Network}
use Rattle.theory.specs.Certificate.{Certificate}
use Rattle.cert_check.specs.Verdict.{IsVerdict}
use Rattle.cert_check.specs.declared.judged.Judged.{Judged}

-- a certificate has at most one verdict
abbrev pub OneVerdictLaw : Type 0
OneVerdictLaw = (net : Network) (c : Certificate) (verdict other : Judged) → IsVerdict net c verdict → IsVerdict net c other → verdict ≡ other
