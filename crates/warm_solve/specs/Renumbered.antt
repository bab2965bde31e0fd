-- A certificate stays under a change of the network where its flow, potential, set or walk still show what they showed: with its
-- numbers computed anew for the changed network it is valid there.
use Rattle.std.specs.Prelude.{ℤ}
use Rattle.theory.specs.Network.{Network, «at»}
use Rattle.theory.specs.Totals.{total_cost, total_value}
use Rattle.theory.specs.Cut.{cut_sum}
use Rattle.theory.specs.Circuit.{span_sum}
use Rattle.theory.specs.Certificate.{Certificate, IsValid}
use Rattle.theory.specs.Certificate.Certificate.{optimal, cut, circuit}

-- with the numbers that the network gives
abbrev pub renumbered : Network → Certificate → Certificate
renumbered net (optimal x u cost value) = optimal x u (total_cost 1 net («at» x)) (total_value 1 net («at» u))
renumbered net (cut side capacity) = cut side (cut_sum net side)
renumbered net (circuit x walk span) = circuit x walk (span_sum net walk)

abbrev pub Stays : Network → Certificate → Type 0
Stays net c = IsValid net (renumbered net c)

-- with one number in the place of each
abbrev pub with_number : Certificate → ℤ → Certificate
with_number (optimal x u cost value) number = optimal x u number number
with_number (cut side capacity) number = cut side number
with_number (circuit x walk span) number = circuit x walk number
