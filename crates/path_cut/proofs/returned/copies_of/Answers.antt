use Rattle.std.proofs.Common.{◌≡◌, ◌<◌, length, get_or, sym, ap, ◌∙◌, arith}
use Rattle.std.proofs.lemmas.List.{length-map, get_or-map}
use Rattle.mono_curve.specs.CurveValue.{CurveValue}
use Rattle.ground_net.specs.Ground.{listings}
use Rattle.path_cut.specs.Returned.{line}
use Rattle.path_cut.proofs.Returns.{taken-more}
use Rattle.path_cut.proofs.returned.copies_of.Goals as goal

pub loop-curve-preserved : goal.loop-curve-preserved
loop-curve-preserved c =
    let k = c.loop-curve.curve-index in
    let curves = c.args.curves.now in
    let item = c.curve-item.result in
    let there : k < length curves = omega (arith, c.loop-curve-test.true) in
    let size = length-map curves (λ (curve : CurveValue). curve.listing) in
    let is : get_or (listings curves) k line ≡ item.listing =
    get_or-map (λ (curve : CurveValue). curve.listing) curves k item line there ∙ ap (λ (curve : CurveValue). curve.listing) (sym c.curve-item.is) in
    taken-more (listings curves) (listings c.loop-curve.copies.items) (listings c.push_copy.new.copies.items) k item.listing line
    (omega (arith, there, size)) c.loop-curve.invariant is c.in_ok-push_copy.ensures
