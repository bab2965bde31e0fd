use Rattle.tucker_tableau.specs.Leading.{IsLeading}
use Rattle.tucker_tableau.proofs.tableau.Tableau.lead.Given as goal

abbrev pub invariant-loop-arc : goal.invariant-loop-arc
invariant-loop-arc l = IsLeading l.initial.self l.self l.arc
