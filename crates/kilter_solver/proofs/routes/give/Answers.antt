use Rattle.std.proofs.Common.{ap, ◌∙◌, arith}
use Rattle.std.proofs.lemmas.Int.{ints}
use Rattle.painted_search.specs.Writes.{with_scratch}
use Rattle.kilter_solver.proofs.routes.give.Goals as goal

pub returns : goal.returns
returns c = c.set_excess.ensures ∙ ap (λ z. with_scratch c.args.work.now c.args.node.0 z) (omega (arith, ints, c.excess.ensures))
