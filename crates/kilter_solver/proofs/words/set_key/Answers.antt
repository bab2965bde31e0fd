use Rattle.std.proofs.Common.{◌+◌, ap, ◌∙◌, w64, to_z, of_z, to_z-of_z}
use Rattle.painted_search.specs.Writes.{with_scratch}
use Rattle.kilter_solver.proofs.words.set_key.Goals as goal

pub returns : goal.returns
returns c =
    c.set_scratch.ensures
    ∙ ap (λ n. with_scratch c.args.work.now (n + c.args.node.0) (to_z w64 (of_z w64 c.args.key))) c.nodes.ensures
    ∙ ap (λ z. with_scratch c.args.work.now (c.args.work.now.nodes + c.args.node.0) z) (to_z-of_z c.ranges.key)
