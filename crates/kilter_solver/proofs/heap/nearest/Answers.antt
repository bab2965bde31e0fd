use Rattle.std.proofs.Common.{sym, subst, arith}
use Rattle.kilter_solver.specs.Spread.{IsNearest}
use Rattle.kilter_solver.proofs.Waiting.{nearest-first}
use Rattle.kilter_solver.proofs.heap.nearest.Goals as goal

pub returns-else-size-eq0-clause-nearest : goal.returns-else-size-eq0-clause-nearest
returns-else-size-eq0-clause-nearest c =
    subst (λ i. IsNearest c.args.work.now i) (sym c.slot.ensures) (nearest-first c.args.work.now c.requires (omega arith))
