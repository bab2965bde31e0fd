use Rattle.std.proofs.Common.{◌≢◌, ℕ, ◌<◌}
use Rattle.tucker_tableau.specs.Tableau.{number}
use Rattle.tucker_tableau.proofs.places.place_of.Given as goal

abbrev pub invariant-loop-k : goal.invariant-loop-k
invariant-loop-k l = (i : ℕ) → i < l.k → number l.arcs i ≢ l.arc
