use Rattle.std.proofs.Common.{◌≡◌, ◌+◌, [], ◌∷◌, ◌++◌, sym, ◌∙◌, ap, subst, pos, length, drop, get_or, to_z, of_z, w64, arith}
use Rattle.std.proofs.lemmas.List.{drop_all, append-nil}
use Rattle.std.proofs.lemmas.Int.{ints}
use Rattle.theory.specs.declared.ext.Ext.TheVariants.{At}
use Rattle.transport_front.specs.declared.pair.Pair.{Pair}
use Rattle.mono_curve.specs.CurveValue.{IsValidCurve}
use Rattle.transport_front.specs.Table.{after, priced, listed}
use Rattle.transport_front.proofs.CurveLemmas.{priced_valid, size_with, list_with}
use Rattle.transport_front.proofs.compiling.curve_of.Goals as goal

pub of_tested-requires : goal.of_tested-requires
of_tested-requires c =
    let pairs = c.args.pairs.now in
    let all : c.loop-pair.items.items ≡ priced pairs =
    sym (append-nil c.loop-pair.items.items) ∙ ap (λ ps. c.loop-pair.items.items ++ after c.loop-pair.total ps) (sym (drop_all c.loop-pair.pair-index pairs (omega arith)))
    ∙ c.loop-pair.invariant.so_far in
    subst (λ items. IsValidCurve (listed items)) (sym all) (priced_valid pairs c.requires)

pub loop-pair-preserved : goal.loop-pair-preserved
loop-pair-preserved c =
    let pairs = c.args.pairs.now in
    let k = c.loop-pair.pair-index in
    let total = c.loop-pair.total in
    let p : Pair = get_or pairs k (record { size = 0; price = pos 0 }) in
    let one = size_with pairs k (record { size = 0; price = pos 0 }) (omega arith) in
    let within = c.requires.prices k (record { size = 0; price = pos 0 }) (omega arith) in
    let low = within.0 in
    let high = within.1 in
    let price_passed : to_z w64 (of_z w64 p.price) ≡ p.price = omega (arith, ints) in
    let most = c.requires.total in
    let so_far = c.loop-pair.invariant.total in
    let sum_passed : to_z w64 (of_z w64 c.from.result) ≡ pos (total + p.size) = omega (arith, ints, c.from.ensures) in
    record {
      so_far =
          ap (λ items. items ++ after (total + p.size) (drop (k + 1) pairs))
          (c.in_ok-push-3.ensures.items ∙ ap (λ items. items ++ At (to_z w64 (of_z w64 c.from.result)) ∷ []) c.in_ok-push-2.ensures.items)
          ∙ ap (λ z. ((c.loop-pair.items.items ++ At z ∷ []) ++ At (to_z w64 (of_z w64 c.from.result)) ∷ []) ++ after (total + p.size) (drop (k + 1) pairs)) price_passed
          ∙ ap (λ z. ((c.loop-pair.items.items ++ At p.price ∷ []) ++ At z ∷ []) ++ after (total + p.size) (drop (k + 1) pairs)) sum_passed
          ∙ list_with pairs k (record { size = 0; price = pos 0 }) (omega arith) c.loop-pair.items.items (priced pairs) total c.loop-pair.invariant.so_far;
      total = omega (arith, c.loop-pair.invariant.total);
    }
