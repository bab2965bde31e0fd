use Rattle.std.proofs.Common.{◌≡◌, ◌+◌, ◌*◌, ◌^◌, ◌/◌, ◌∙◌, ◌≤◌, refl, sym, List, length, to_z, of_z, to_z-of_z, FitsSigned, arith, rules}
use Rattle.std.specs.Prelude.{ℕ, ℤ, pos, ◌+ℤ◌}
use Rattle.std.specs.Int.{w64, w128}
use Rattle.std.proofs.lemmas.Int.{ints}
use Rattle.theory.specs.declared.ext.Ext.{Ext}
use Rattle.theory.specs.CurveList.{first, last, IsCurveList}
use Rattle.theory.specs.Domain.{clip, rest_point}
use Rattle.theory.specs.Limits.{AreWithin, number_most, base_most, flow_most, IsWithin}
use Rattle.theory.proofs.Bounds.{nothing_within, within_more, cost_up_to, cost_up_to-none, cost_up_to-more, cost_up_to-all, priced_within, within_fits128}
use Rattle.mono_curve.proofs.kept.cost_by_pieces.Goals as goal
use Rattle.mono_curve.proofs.kept.cost_by_pieces.Goals.{After-rise_at-total}

rest_is : (items : List Ext) (low high : Ext) (r : ℤ) → FitsSigned w64 r → low ≡ first items → high ≡ last items → r ≡ clip 1 low high (pos 0) → to_z w64 (of_z w64 r) ≡ rest_point items
rest_is items low high r fits l h e = rw (to_z-of_z fits, e, l, h) refl

sum_is : (c : After-rise_at-total) → to_z w128 c.loop-k.total-bits +ℤ to_z w128 (of_z w128 c.rise_at-total.result)
    ≡ cost_up_to c.args.items.now (pos 0) (rest_point c.args.items.now) c.args.x (c.loop-k.k + 1)
sum_is c =
    let fits : FitsSigned w64 c.clip_to-rest.result = search rules in
    let at_rest = rest_is c.args.items.now _ _ c.clip_to-rest.result fits c.domain_of-low.ensures.low c.domain_of-low.ensures.high c.clip_to-rest.ensures in
    let total = rw (to_z-of_z c.ranges.x, at_rest) at c.loop-k.invariant in
    let risen = rw (to_z-of_z c.ranges.x, at_rest) at c.rise_at-total.ensures in
    let more = cost_up_to-more c.args.items.now (pos 0) (rest_point c.args.items.now) c.args.x c.loop-k.k in
    omega (arith, ints)

-- what is added up so far stays within the limit of a price
so_far_within : (items : List Ext) (x : ℤ) (k : ℕ) → IsCurveList items → AreWithin number_most items → IsWithin number_most x → k ≤ length items / 2
    → IsWithin (10 ^ 28) (cost_up_to items (pos 0) (rest_point items) x k)
so_far_within items x k list within inside fits =
    priced_within items (pos 0) x k list within (nothing_within (2 * base_most)) (within_more number_most (2 * flow_most) x (omega arith) inside) fits

sum_fits : (c : After-rise_at-total) → FitsSigned w128 (to_z w128 c.loop-k.total-bits +ℤ to_z w128 (of_z w128 c.rise_at-total.result))
sum_fits c =
    let e = sum_is c in
    rw e (within_fits128 (10 ^ 28) _ (so_far_within c.args.items.now c.args.x (c.loop-k.k + 1) c.requires.list c.requires.within c.requires.flow_within (omega arith)) (omega arith))

pub loop-k-init : goal.loop-k-init
loop-k-init c = sym (cost_up_to-none _ _ _ _)

pub overflow_add-total : goal.overflow_add-total
overflow_add-total c = sum_fits c

pub loop-k-preserved : goal.loop-k-preserved
loop-k-preserved c =
    let fits : FitsSigned w64 c.clip_to-rest.result = search rules in
    let at_rest = rest_is c.args.items.now _ _ c.clip_to-rest.result fits c.domain_of-low.ensures.low c.domain_of-low.ensures.high c.clip_to-rest.ensures in
    rw (to_z-of_z (sum_fits c), to_z-of_z c.ranges.x, at_rest) (sum_is c)

pub returns : goal.returns
returns c =
    let fits : FitsSigned w64 c.clip_to-rest.result = search rules in
    let at_rest = rest_is c.args.items.now _ _ c.clip_to-rest.result fits c.domain_of-low.ensures.low c.domain_of-low.ensures.high c.clip_to-rest.ensures in
    let total = rw (to_z-of_z c.ranges.x, at_rest) at c.loop-k.invariant in
    let all : c.loop-k.k ≡ length c.args.items.now / 2 = omega arith in
    let done = rw all at total in
    done ∙ cost_up_to-all c.args.items.now (pos 0) c.args.x c.requires.list
