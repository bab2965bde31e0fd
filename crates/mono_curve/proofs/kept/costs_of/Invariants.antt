use Rattle.mono_curve.proofs.PieceCosts.{IsCosted}
use Rattle.mono_curve.proofs.kept.costs_of.Given as goal

abbrev pub invariant-loop-k : goal.invariant-loop-k
invariant-loop-k l = IsCosted l.items l.k l.here.flow l.here.price l.costs.items
