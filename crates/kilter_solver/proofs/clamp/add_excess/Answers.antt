use Rattle.std.proofs.Common.{ap, ◌∙◌, arith}
use Rattle.std.proofs.lemmas.Int.{ints}
use Rattle.painted_search.specs.Writes.{with_scratch}
use Rattle.kilter_solver.proofs.clamp.add_excess.Goals as goal

pub returns : goal.returns
returns c =
    let e_low = c.requires.excess.0 in
    let e_high = c.requires.excess.1 in
    let a_low = c.requires.amount.0 in
    let a_high = c.requires.amount.1 in
    c.set_excess.ensures ∙ ap (λ z. with_scratch c.args.work.now c.args.node.0 z) (omega (arith, ints, c.excess.ensures))
