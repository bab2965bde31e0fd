-- The name is one and new, and there is room; with the node added, one more is there, and its curve was exact.
use Rattle.std.proofs.Common.{◌≡◌, ◌∙◌, ◌||◌, ◌+◌, ◌<◌, length, false, arith, sym, ap, subst, drop}
use Rattle.model_text.specs.Model.{node_at, node_fault, with_node}
use Rattle.model_text.specs.Names.{IsName}
use Rattle.model_text.specs.Rescaled.{are_nodes_inexact, is_curve_inexact, rescaled_curve}
use Rattle.model_text.proofs.PrintedModel.{node-named, no_node}
use Rattle.model_text.proofs.RescaledModel.{nodes_before, node-free, node-more, node-test}
use Rattle.model_text.proofs.rescaling.add_nodes.Goals as goal

pub of_tested-requires : goal.of_tested-requires
of_tested-requires c =
    let m = c.args.m.now in
    subst IsName (sym c.node_name.ensures) (node-named m.scale m.scaled m.entries m.formed c.loop-i.i no_node (omega (arith, c.nodes-i-end.ensures)))

pub push_node-requires-clause-free : goal.push_node-requires-clause-free
push_node-requires-clause-free c =
    let m = c.args.m.now in
    let t = c.args.model.now.scale in
    ap (λ entries. node_fault entries c.in-Ok.name.bytes) c.loop-i.invariant.added
    ∙ ap (node_fault (nodes_before m.scale t m.entries m.formed c.loop-i.i)) (c.in-Ok.ensures.name ∙ c.node_name.ensures)
    ∙ node-free m.scale t m.entries m.formed c.loop-i.i (omega (arith, c.nodes-i-end.ensures))

pub loop-i-preserved : goal.loop-i-preserved
loop-i-preserved c =
    let m = c.args.m.now in
    let t = c.args.model.now.scale in
    let i = c.loop-i.i in
    let below : i < length m.entries.nodes = omega (arith, c.nodes-i-end.ensures) in
    let exact : is_curve_inexact m.scale t (node_at m.entries i).supply ≡ false =
    ap (is_curve_inexact m.scale t) (sym c.supply.ensures)
    ∙ ap (λ s. is_curve_inexact s t c.supply.result.now.listing) (sym c.scale.ensures)
    ∙ ap (λ to. is_curve_inexact c.scale.result to c.supply.result.now.listing) (sym (c.scale-in-loop-i.ensures ∙ c.loop-i.invariant.scale))
    ∙ c.in_ok-supply.ensures.exact in
    let curve : c.in_ok-supply.supply.listing ≡ rescaled_curve m.scale t (node_at m.entries i).supply =
    c.in_ok-supply.ensures.curve
    ∙ ap (λ s. rescaled_curve s c.scale-in-loop-i.result c.supply.result.now.listing) c.scale.ensures
    ∙ ap (λ to. rescaled_curve m.scale to c.supply.result.now.listing) (c.scale-in-loop-i.ensures ∙ c.loop-i.invariant.scale)
    ∙ ap (rescaled_curve m.scale t) c.supply.ensures in
    record {
      scale = c.in-Ok-push_node.ensures.scale ∙ c.loop-i.invariant.scale;
      same_test = sym (node-test m.scale t m.entries m.formed i below ∙ ap (λ b. b || are_nodes_inexact m.scale t (drop (i + 1) m.entries.nodes)) exact)
          ∙ c.loop-i.invariant.same_test;
      added =
          c.in-Ok-push_node.ensures.added
          ∙ ap (λ entries. with_node entries c.in-Ok.name.bytes c.in_ok-supply.supply.listing) c.loop-i.invariant.added
          ∙ ap (λ name. with_node (nodes_before m.scale t m.entries m.formed i) name c.in_ok-supply.supply.listing) (c.in-Ok.ensures.name ∙ c.node_name.ensures)
          ∙ ap (with_node (nodes_before m.scale t m.entries m.formed i) (node_at m.entries i).name) curve
          ∙ node-more m.scale t m.entries m.formed i below;
    }
