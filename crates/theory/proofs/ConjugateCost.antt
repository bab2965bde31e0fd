-- The cost of the conjugate list is the conjugate cost; the conjugate of the conjugate is the curve, with its base.
-- Take a pair (x, w) of the curve, and a pair (y, w') where w' is the tension at rest. Fenchel's equality at both gives
-- the conjugate cost between w' and w by x w, y w' and the cost between y and x; integration by parts turns these into
-- the rise of the conjugate list between w' and w. At rest the two agree, by the base that the conjugate list was given.
-- The base of the conjugate of the conjugate is the conjugate's conjugate cost at the rest point: by Fenchel's equality
-- of both curves, at a pair of the rest point, it is the cost there, which is the base.
use Rattle.std.proofs.Common.{◌≡◌, ℕ, ◌≤◌, ℤ, pos, ◌+ℤ◌, ◌*ℤ◌, List, refl, sym, ap, ap₂, ◌∙◌, arith}
use Rattle.std.proofs.lemmas.Int.{ints}
use Rattle.theory.specs.declared.ext.Ext.{Ext}
use Rattle.theory.specs.CurveList.{IsCurveList, Listing, pieces}
use Rattle.theory.specs.Domain.{InDomain, clip, rest_point}
use Rattle.theory.specs.Span.{InSpan, rest_tension}
use Rattle.theory.specs.Sums.{sum_over}
use Rattle.theory.specs.Cost.{rise, cost}
use Rattle.theory.specs.ConjugateCost.{conjugate_cost}
use Rattle.theory.specs.Views.{conjugate_items, conjugate_of}
use Rattle.theory.specs.ViewLaws.{ConjugateCostLaw, ConjugateTwiceLaw}
use Rattle.theory.proofs.Rings.{rings, one_times, scale_cancel_equal}
use Rattle.theory.proofs.Shape.{shape_by_place}
use Rattle.theory.proofs.Scaling.{conjugate_cost-scale}
use Rattle.theory.proofs.Pairs.{flow_of, tension_of_flow}
use Rattle.theory.proofs.Fenchel.{cost_between}
use Rattle.theory.proofs.Equality.{equal_on_curve, in_span, rest_in_domain}
use Rattle.theory.proofs.ConjugateList.{conjugate-is_list, conjugate-pair, conjugate-items_twice}
use Rattle.theory.proofs.Parts.{part, rises_by_parts, parts}

-- ---- the points where the lists rest

pub rest_point-conjugate : (items : List Ext) → IsCurveList items → rest_point (conjugate_items items) ≡ rest_tension items
rest_point-conjugate items list = let ends = conjugate-is_list items list in ap₂ (λ low high. clip 1 low high (pos 0)) ends.domain_low ends.domain_high

pub rest_tension-conjugate : (items : List Ext) → IsCurveList items → rest_tension (conjugate_items items) ≡ rest_point items
rest_tension-conjugate items list = let ends = conjugate-is_list items list in ap₂ (λ low high. clip 1 low high (pos 0)) ends.span_low ends.span_high

rest_in_span : (q : ℕ) (items : List Ext) → IsCurveList items → InSpan q items (pos q *ℤ rest_tension items)
rest_in_span q items list =
    let ends = conjugate-is_list items list in
    let within = rest_in_domain q (shape_by_place (conjugate_items items) ends.is_list) in
    rw (ends.domain_low, ends.domain_high) at within

-- at a scale of 1
pub rest_tension-in_span : (items : List Ext) → IsCurveList items → InSpan 1 items (rest_tension items)
rest_tension-in_span items list = rw (one_times (rest_tension items)) at (rest_in_span 1 items list)

-- ---- the cost of the conjugate list

distribute : (q a b c : ℤ) → a ≡ b +ℤ c → q *ℤ a ≡ q *ℤ b +ℤ q *ℤ c
distribute q a b c e = rw e (omega (arith, rings))

-- at two pairs with the products xw and yv: f and g are the costs, h and k the conjugate costs, F and G the rises, q times
-- each, and A, B and A', B' the parts of the list and of the conjugate list
from_parts : (xw yv f g h k F G A B A' B' : ℤ) → f +ℤ h ≡ xw → g +ℤ k ≡ yv → f ≡ g +ℤ F → A +ℤ B ≡ xw → A' +ℤ B' ≡ yv
    → A ≡ F +ℤ A' → B ≡ G +ℤ B' → k +ℤ G ≡ h
from_parts xw yv f g h k F G A B A' B' e e' r p p' s t = omega (arith, ints)

module _ (q : ℕ) (c : Listing) (w : ℤ) (positive : 1 ≤ q) (list : IsCurveList c.items) (in_w : InSpan q c.items w) where
  abbrev at_rest : ℤ
  at_rest = pos q *ℤ rest_tension c.items

  conjugate_between : pos q *ℤ conjugate_cost q c at_rest +ℤ pos q *ℤ sum_over (rise q at_rest w) (pieces (conjugate_items c.items)) ≡ pos q *ℤ conjugate_cost q c w
  conjugate_between =
      let shape = shape_by_place c.items list in
      let flow = flow_of q w shape in_w in
      let rest = flow_of q at_rest shape (rest_in_span q c.items list) in
      let x = pos q *ℤ flow.point in
      let y = pos q *ℤ rest.point in
      from_parts
      (x *ℤ w)
      (y *ℤ at_rest)
      (pos q *ℤ cost q c x)
      (pos q *ℤ cost q c y)
      (pos q *ℤ conjugate_cost q c w)
      (pos q *ℤ conjugate_cost q c at_rest)
      (pos q *ℤ sum_over (rise q y x) (pieces c.items))
      (pos q *ℤ sum_over (rise q at_rest w) (pieces (conjugate_items c.items)))
      (sum_over (part q x) (pieces c.items))
      (sum_over (part q w) (pieces (conjugate_items c.items)))
      (sum_over (part q y) (pieces c.items))
      (sum_over (part q at_rest) (pieces (conjugate_items c.items)))
      (equal_on_curve q c x w list flow.on_curve)
      (equal_on_curve q c y at_rest list rest.on_curve)
      (distribute (pos q) (cost q c x) (cost q c y) (sum_over (rise q y x) (pieces c.items)) (cost_between q c y x))
      (parts q x w positive shape flow.on_curve)
      (parts q y at_rest positive shape rest.on_curve)
      (rises_by_parts q y x (pieces c.items))
      (rises_by_parts q at_rest w (pieces (conjugate_items c.items)))

  cost_of_conjugate : cost q (conjugate_of c) w ≡ conjugate_cost q c w
  cost_of_conjugate =
      let sum = sum_over (rise q at_rest w) (pieces (conjugate_items c.items)) in
      let base = conjugate_cost-scale q c (rest_tension c.items) in
      let total : pos q *ℤ (conjugate_cost q c at_rest +ℤ sum) ≡ pos q *ℤ conjugate_cost q c w =
      distribute (pos q) (conjugate_cost q c at_rest +ℤ sum) (conjugate_cost q c at_rest) sum refl ∙ conjugate_between in
      let same = scale_cancel_equal q (conjugate_cost q c at_rest +ℤ sum) (conjugate_cost q c w) positive total in
      ap₂ (λ b r. b +ℤ sum_over (rise q (pos q *ℤ r) w) (pieces (conjugate_items c.items))) (sym base) (rest_point-conjugate c.items list) ∙ same

pub cost-conjugate : ConjugateCostLaw
cost-conjugate q c w positive list in_w = cost_of_conjugate q c w positive list in_w

-- ---- the conjugate of the conjugate

-- the cost where the curve rests
pub cost-at_rest : (c : Listing) → cost 1 c (rest_point c.items) ≡ c.base
cost-at_rest c =
    let still = cost_between 1 c (rest_point c.items) (rest_point c.items) in
    let r = one_times (rest_point c.items) in
    ap (λ z. pos 1 *ℤ c.base +ℤ sum_over (rise 1 z (rest_point c.items)) (pieces c.items)) r
    ∙ nothing_more c.base (cost 1 c (rest_point c.items)) (sum_over (rise 1 (rest_point c.items) (rest_point c.items)) (pieces c.items)) still
  where
    nothing_more : (b f s : ℤ) → f ≡ f +ℤ s → pos 1 *ℤ b +ℤ s ≡ b
    nothing_more b f s e = omega (arith, ints)

base_of : (b f g h k xv vx : ℤ) → pos 1 *ℤ f +ℤ pos 1 *ℤ h ≡ xv → pos 1 *ℤ g +ℤ pos 1 *ℤ k ≡ vx → xv ≡ vx → g ≡ h → f ≡ b → k ≡ b
base_of b f g h k xv vx e e' same s t = omega (arith, ints)

base-conjugate_twice : (c : Listing) → IsCurveList c.items → conjugate_cost 1 (conjugate_of c) (rest_tension (conjugate_items c.items)) ≡ c.base
base-conjugate_twice c list =
    let shape = shape_by_place c.items list in
    let x = rest_point c.items in
    let in_x : InDomain 1 c.items x = rw (one_times x) at (rest_in_domain 1 shape) in
    let tension = tension_of_flow c.items x list in_x in
    let v = tension.0 in
    let pair = tension.1 in
    let turned = conjugate-pair 1 c.items x v list pair in
    let ends = conjugate-is_list c.items list in
    rw (rest_tension-conjugate c.items list)
    (base_of
    c.base
    (cost 1 c x)
    (cost 1 (conjugate_of c) v)
    (conjugate_cost 1 c v)
    (conjugate_cost 1 (conjugate_of c) x)
    (x *ℤ v)
    (v *ℤ x)
    (equal_on_curve 1 c x v list pair)
    (equal_on_curve 1 (conjugate_of c) v x ends.is_list turned)
    (omega (arith, rings))
    (cost-conjugate 1 c v (omega arith) list (in_span 1 x v shape pair))
    (cost-at_rest c))

abbrev listing : List Ext → ℤ → Listing
listing items base = record { items = items; base = base }

pub conjugate-twice : ConjugateTwiceLaw
conjugate-twice c list = ap₂ listing (conjugate-items_twice c.items list) (base-conjugate_twice c list)
