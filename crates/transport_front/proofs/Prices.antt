-- The cost of a list of pairs is its price, pair by pair. The rest point is 0, since the list begins there, and each piece moves 0 to
-- its beginning: so what the cost rises by along the piece is the pair's price times the part of the amount within it.
use Rattle.std.proofs.Common.{◌≡◌, ℕ, zero, suc, ◌+◌, ◌<◌, ◌≤◌, ℤ, pos, ◌+ℤ◌, ◌-ℤ◌, ◌*ℤ◌, neg_ℤ, ◌≤ℤ◌, ◌<ℤ◌, Bool, true, false, not, List, [], ◌∷◌, length, slice_index_or, refl, sym, ap, ap₂, ◌∙◌, subst, arith}
use Rattle.std.specs.Prelude.{int_lt}
use Rattle.std.specs.Int.{int_min, int_max}
use Rattle.model_text.proofs.ListTests.{neither}
use Rattle.std.proofs.lemmas.Int.{ints, clamps}
use Rattle.theory.specs.declared.ext.Ext.{Ext}
use Rattle.theory.specs.declared.ext.Ext.TheVariants.{At}
use Rattle.theory.specs.Ends.{IsBetween, IsAtMost, IsAtLeast}
use Rattle.theory.specs.CurveList.{pieces, first, last, IsCurveList}
use Rattle.theory.specs.Domain.{InDomain, rest_point}
use Rattle.theory.specs.Sums.{sum_over}
use Rattle.theory.specs.Cost.{rise, cost}
use Rattle.theory.proofs.Rings.{rings, scale_mono}
use Rattle.theory.proofs.Shape.{Rest, less_in, place_of_shape}
use Rattle.theory.proofs.Shape.Rest.{ends, goes_on}
use Rattle.theory.proofs.Shape.Shape.{single, long}
use Rattle.transport_front.specs.declared.pair.Pair.{Pair}
use Rattle.transport_front.specs.Table.{Kind, size_of, is_plant, is_shop, after, priced, listed, supply_items, has_fall, ArePairs, IsKind}
use Rattle.transport_front.specs.Table.Kind.{plant, shop}
use Rattle.transport_front.specs.Plan.{part, price_from, price, place_cost, IsServed}

-- ---- the ends of the list

last_after : (before : ℕ) (pairs : List Pair) → last (At (pos before) ∷ after before pairs) ≡ At (pos (before + size_of pairs))
last_after before [] = ap (λ n. At (pos n)) (omega arith)
last_after before (p ∷ []) = ap (λ n. At (pos n)) (omega arith)
last_after before (p ∷ r ∷ ps) = last_after (before + p.size) (r ∷ ps) ∙ ap (λ n. At (pos n)) (omega arith)

pub last_priced : (pairs : List Pair) → last (priced pairs) ≡ At (pos (size_of pairs))
last_priced pairs = last_after 0 pairs ∙ ap (λ n. At (pos n)) (omega arith)

-- ---- the cost

piece_rise : (q before size : ℕ) (p z : ℤ) → rise q (pos 0) z (record { left = At (pos before); slope = p; right = At (pos (before + size)) })
    ≡ p *ℤ part (pos q *ℤ pos before) (pos q *ℤ pos (before + size)) z
piece_rise q before size p z =
    let some = scale_mono q (pos 0) (pos before) (omega (arith, ints)) in
    let more = scale_mono q (pos before) (pos (before + size)) (omega (arith, ints)) in
    let at_rest : int_min (pos q *ℤ pos (before + size)) (int_max (pos q *ℤ pos before) (pos 0)) ≡ pos q *ℤ pos before = omega (arith, ints, clamps) in
    ap (λ c. p *ℤ (int_min (pos q *ℤ pos (before + size)) (int_max (pos q *ℤ pos before) z) -ℤ c)) at_rest

rises_after : (q before : ℕ) (pairs : List Pair) (z : ℤ)
    → sum_over (rise q (pos 0) z) (pieces (At (pos before) ∷ after before pairs)) ≡ price_from q before pairs z
rises_after q before [] z = refl
rises_after q before (p ∷ ps) z = ap₂ ◌+ℤ◌ (piece_rise q before p.size p.price z) (rises_after q (before + p.size) ps z)

rest_zero : (pairs : List Pair) → rest_point (priced pairs) ≡ pos 0
rest_zero pairs = rw (last_priced pairs) (omega (arith, ints, clamps))

pub price_is_cost : (q : ℕ) (pairs : List Pair) (z : ℤ) → cost q (listed (priced pairs)) z ≡ price q pairs z
price_is_cost q pairs z =
    let none : pos q *ℤ rest_point (priced pairs) ≡ pos 0 = ap (λ r. pos q *ℤ r) (rest_zero pairs) ∙ omega (arith, ints) in
    ap (λ r. pos q *ℤ pos 0 +ℤ sum_over (rise q r z) (pieces (priced pairs))) none
    ∙ ap (λ s. pos q *ℤ pos 0 +ℤ s) (rises_after q 0 pairs z)
    ∙ omega (arith, ints)

-- of a place, by its flow: a plant's flow is what is taken there
pub place_costs : (q : ℕ) (kind : Kind) (x out : ℤ) → (is_plant kind ≡ true → x ≡ out) → cost q (listed (supply_items kind)) x ≡ place_cost q kind out
place_costs q (plant pairs) x out same = price_is_cost q pairs x ∙ ap (price q pairs) (same refl)
place_costs q (shop demand) x out same = omega (arith, ints)

-- ---- the domain

pub lane_domain : (q : ℕ) (pairs : List Pair) (z : ℤ) → pos 0 ≤ℤ z → z ≤ℤ (pos q *ℤ pos (size_of pairs)) → InDomain q (priced pairs) z
lane_domain q pairs z some most =
    record { least = omega (arith, ints); most = subst (λ e. IsAtMost q e z) (sym (last_priced pairs)) most }

pub some_there : (q : ℕ) (pairs : List Pair) (z : ℤ) → InDomain q (priced pairs) z → pos 0 ≤ℤ z
some_there q pairs z within = let least : (pos q *ℤ pos 0) ≤ℤ z = within.least in omega (arith, ints)

pub most_there : (q : ℕ) (pairs : List Pair) (z : ℤ) → InDomain q (priced pairs) z → z ≤ℤ (pos q *ℤ pos (size_of pairs))
most_there q pairs z within = subst (λ e. IsAtMost q e z) (last_priced pairs) within.most

-- a place by what is taken there and brought there: nothing is brought to a plant, nothing taken from a shop
pub is_served : (q : ℕ) (kind : Kind) (x out into : ℤ) → x ≡ out -ℤ into → (is_plant kind ≡ true → into ≡ pos 0) → (is_shop kind ≡ true → out ≡ pos 0)
    → InDomain q (supply_items kind) x → IsServed q kind out into
is_served q (plant pairs) x out into balance no_in no_out within =
    let most = most_there q pairs x within in let none = no_in refl in omega (arith, ints)
is_served q (shop demand) x out into balance no_in no_out within =
    let least : (pos q *ℤ neg_ℤ (pos demand)) ≤ℤ x = within.least in
    let most : x ≤ℤ (pos q *ℤ neg_ℤ (pos demand)) = within.most in
    let none = no_out refl in
    omega (arith, rings)

pub place_domain : (q : ℕ) (kind : Kind) (x out into : ℤ) → x ≡ out -ℤ into → (is_plant kind ≡ true → into ≡ pos 0) → (is_shop kind ≡ true → out ≡ pos 0)
    → pos 0 ≤ℤ out → IsServed q kind out into → InDomain q (supply_items kind) x
place_domain q (plant pairs) x out into balance no_in no_out some served =
    let none = no_in refl in lane_domain q pairs x (omega (arith, ints)) (omega (arith, ints, served))
place_domain q (shop demand) x out into balance no_in no_out some served =
    let none = no_out refl in
    let needs : into ≡ pos q *ℤ pos demand = served in
    record { least = omega (arith, rings); most = omega (arith, rings) }

-- ---- a curve list

rises : (r p : Pair) (ps : List Pair) → has_fall (r ∷ p ∷ ps) ≡ false → (r.price <ℤ p.price) × (has_fall (p ∷ ps) ≡ false)
rises r p ps none =
    let two = neither (not (int_lt r.price p.price)) (has_fall (p ∷ ps)) none in
    let less = not-false (int_lt r.price p.price) two.0 in
    (omega (arith, ints), two.1)
  where
    not-false : (b : Bool) → not b ≡ false → b ≡ true
    not-false true is = refl
    not-false false is = cc

rest_shape : (r : Pair) (before : ℕ) (ps : List Pair) → has_fall (r ∷ ps) ≡ false → ((k : ℕ) (d : Pair) → k < length ps → 1 ≤ (slice_index_or ps k d).size)
    → Rest r.price (At (pos before)) (after before ps)
rest_shape r before [] rise sizes = ends
rest_shape r before (p ∷ ps) rise sizes =
    let some = sizes 0 p (omega arith) in
    let two = rises r p ps rise in
    goes_on two.0 (less_in (pos before) (pos (before + p.size)) (omega (arith, ints)))
    (rest_shape p (before + p.size) ps two.1 (λ k d there. sizes (suc k) d (omega arith)))

pub priced_list : (pairs : List Pair) → ArePairs pairs → IsCurveList (priced pairs)
priced_list [] are = absurd (omega (arith, are.some))
priced_list (p ∷ ps) are =
    let some = are.sizes 0 p (omega arith) in
    place_of_shape (long (less_in (pos 0) (pos (0 + p.size)) (omega (arith, ints)))
    (rest_shape p (0 + p.size) ps are.rise (λ k d there. are.sizes (suc k) d (omega arith))))

pub kind_list : (kind : Kind) → IsKind kind → IsCurveList (supply_items kind)
kind_list (plant pairs) are = priced_list pairs (are.pairs refl)
kind_list (shop demand) are = place_of_shape single
