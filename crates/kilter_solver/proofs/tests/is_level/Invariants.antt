use Rattle.std.proofs.Common.{ℕ, ◌<◌, pos, map}
use Rattle.theory.specs.Span.{InSpan}
use Rattle.theory.specs.Network.{list_at}
use Rattle.kilter_solver.proofs.tests.is_level.Given as goal

abbrev pub invariant-loop-j : goal.invariant-loop-j
invariant-loop-j g l = record { level : (k : ℕ) → k < l.j → InSpan 1 (list_at (map g.C.Monotone.items l.curves) k) (pos 0) }
