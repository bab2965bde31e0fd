use Rattle.net_incidence.specs.Graph.{bare}
use Rattle.tucker_tableau.specs.Cells.{IsStar}
use Rattle.tucker_tableau.proofs.first.star_entries.Given as goal

abbrev pub invariant-loop-j : goal.invariant-loop-j
invariant-loop-j l = IsStar (bare l.net) l.rows l.columns l.entries.items l.j
