-- A sum of ends that counts.
use Rattle.net_incidence.specs.declared.sums.Sum.{Sum}
use Rattle.net_incidence.specs.declared.sums.Sum.TheVariants.{Whole, Endless}

abbrev pub IsWhole : Sum → Type 0
IsWhole (Whole number) = Unit {0}
IsWhole (Endless arc) = ⊥
