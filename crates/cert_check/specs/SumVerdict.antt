-- The verdict on a sum of ends, which is to be the stated number and below 0.
use Rattle.std.specs.Prelude.{◌≡◌, ℤ, pos, ◌≤ℤ◌, ◌<ℤ◌}
use Rattle.net_incidence.specs.declared.sums.Sum.{Sum}
use Rattle.net_incidence.specs.declared.sums.Sum.TheVariants.{Whole, Endless as EndlessSum}
use Rattle.cert_check.specs.Verdict.{IsWrong}
use Rattle.cert_check.specs.declared.judged.Judged.{Judged}
use Rattle.cert_check.specs.declared.judged.Judged.TheVariants.{Accepted, Endless, WrongNumber, NotNegative}

abbrev pub OnSum : Sum → ℤ → Judged → Type 0
OnSum (EndlessSum first) stated (Endless arc) = arc ≡ first
OnSum (Whole sum) stated (WrongNumber number right) = IsWrong stated sum number right
OnSum (Whole sum) stated NotNegative = (stated ≡ sum) × (pos 0 ≤ℤ stated)
OnSum (Whole sum) stated Accepted = (stated ≡ sum) × (stated <ℤ pos 0)
OnSum sum stated verdict = ⊥
