-- The name is one and new, the ends are apart, and there is room; with the arc added, one more is there, and its curve was exact.
use Rattle.std.proofs.Common.{◌≡◌, ◌∙◌, ◌||◌, ◌+◌, ◌<◌, length, false, arith, sym, ap, subst, drop}
use Rattle.model_text.specs.Model.{arc_at, arc_fault, with_arc}
use Rattle.model_text.specs.Names.{IsName}
use Rattle.model_text.specs.Rescaled.{are_arcs_inexact, is_curve_inexact, rescaled_curve}
use Rattle.model_text.proofs.PrintedModel.{arc-named, no_arc}
use Rattle.model_text.proofs.RescaledModel.{arcs_before, arc-free, arc-more, arc-test}
use Rattle.model_text.proofs.rescaling.add_arcs.Goals as goal

pub of_tested-requires : goal.of_tested-requires
of_tested-requires c =
    let m = c.args.m.now in
    subst IsName (sym c.arc_name.ensures) (arc-named m.scale m.scaled m.entries m.formed c.loop-j.j no_arc (omega (arith, c.arcs-j-end.ensures)))

pub push_arc-requires-clause-free : goal.push_arc-requires-clause-free
push_arc-requires-clause-free c =
    let m = c.args.m.now in
    let t = c.args.model.now.scale in
    let arc = arc_at m.entries c.loop-j.j in
    ap (λ entries. arc_fault entries c.in-Ok.name.bytes c.arc_from.result c.arc_to.result) c.loop-j.invariant.added
    ∙ ap (λ name. arc_fault (arcs_before m.scale t m.entries m.formed c.loop-j.j) name c.arc_from.result c.arc_to.result) (c.in-Ok.ensures.name ∙ c.arc_name.ensures)
    ∙ ap (λ tail. arc_fault (arcs_before m.scale t m.entries m.formed c.loop-j.j) arc.name tail c.arc_to.result) c.arc_from.ensures
    ∙ ap (arc_fault (arcs_before m.scale t m.entries m.formed c.loop-j.j) arc.name arc.from) c.arc_to.ensures
    ∙ arc-free m.scale t m.entries m.formed c.loop-j.j (omega (arith, c.arcs-j-end.ensures))

pub loop-j-preserved : goal.loop-j-preserved
loop-j-preserved c =
    let m = c.args.m.now in
    let t = c.args.model.now.scale in
    let j = c.loop-j.j in
    let arc = arc_at m.entries j in
    let before = arcs_before m.scale t m.entries m.formed j in
    let listing = c.in_ok-curve.curve.listing in
    let below : j < length m.entries.arcs = omega (arith, c.arcs-j-end.ensures) in
    let exact : is_curve_inexact m.scale t arc.curve ≡ false =
    ap (is_curve_inexact m.scale t) (sym c.arc_curve.ensures)
    ∙ ap (λ s. is_curve_inexact s t c.arc_curve.result.now.listing) (sym c.scale.ensures)
    ∙ ap (λ to. is_curve_inexact c.scale.result to c.arc_curve.result.now.listing) (sym (c.scale-in-loop-j.ensures ∙ c.loop-j.invariant.scale))
    ∙ c.in_ok-curve.ensures.exact in
    let curve : listing ≡ rescaled_curve m.scale t arc.curve =
    c.in_ok-curve.ensures.curve
    ∙ ap (λ s. rescaled_curve s c.scale-in-loop-j.result c.arc_curve.result.now.listing) c.scale.ensures
    ∙ ap (λ to. rescaled_curve m.scale to c.arc_curve.result.now.listing) (c.scale-in-loop-j.ensures ∙ c.loop-j.invariant.scale)
    ∙ ap (rescaled_curve m.scale t) c.arc_curve.ensures in
    record {
      scale = c.in-Ok-push_arc.ensures.scale ∙ c.loop-j.invariant.scale;
      same_test = sym (arc-test m.scale t m.entries m.formed j below ∙ ap (λ b. b || are_arcs_inexact m.scale t (drop (j + 1) m.entries.arcs)) exact)
          ∙ c.loop-j.invariant.same_test;
      added =
          c.in-Ok-push_arc.ensures.added
          ∙ ap (λ entries. with_arc entries c.in-Ok.name.bytes c.arc_from.result c.arc_to.result listing) c.loop-j.invariant.added
          ∙ ap (λ name. with_arc before name c.arc_from.result c.arc_to.result listing) (c.in-Ok.ensures.name ∙ c.arc_name.ensures)
          ∙ ap (λ tail. with_arc before arc.name tail c.arc_to.result listing) c.arc_from.ensures
          ∙ ap (λ head. with_arc before arc.name arc.from head listing) c.arc_to.ensures
          ∙ ap (with_arc before arc.name arc.from arc.to) curve
          ∙ arc-more m.scale t m.entries m.formed j below;
    }
