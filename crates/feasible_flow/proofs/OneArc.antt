-- The violation of one arc. A flow that moves and stays on the near side of the end that it moves to has no greater
-- violation after that: it is not past this end, and it is no further past the other one. What is no more than the flow
-- lacked makes the violation as much smaller.
use Rattle.std.proofs.Common.{◌≡◌, ℕ, ◌+◌, ◌≤◌, ℤ, pos, negsuc, ◌+ℤ◌, ◌-ℤ◌, neg_ℤ, ◌≤ℤ◌, Bool, true, false, List, refl, sym, not, if◌then◌else◌, ◌∙◌, arith}
use Rattle.std.specs.Int.{int_max}
use Rattle.std.proofs.lemmas.Int.{ints, clamps}
use Rattle.std.proofs.lemmas.Bool.{false≢true}
use Rattle.theory.specs.declared.ext.Ext.{Ext}
use Rattle.theory.specs.declared.ext.Ext.TheVariants.{MinusInf, At, PlusInf}
use Rattle.theory.specs.Ends.{IsAtLeast, IsAtMost, is_below}
use Rattle.theory.specs.CurveList.{first, last, IsCurveList}
use Rattle.theory.specs.Domain.{InDomain}
use Rattle.theory.specs.Painting.{IsFree}
use Rattle.theory.specs.Sent.{sends}
use Rattle.feasible_flow.specs.Painting.{shade, domain_colour}
use Rattle.feasible_flow.specs.Violations.{missing, surplus, violation, needed, HasRoom, distance}
use Rattle.theory.specs.Sums.{positive_part}
use Rattle.feasible_flow.proofs.DomainEnds.{AreEnds, both, from_a_point, to_a_point, everywhere, list-ends}

pub positive_part-is : (z : ℤ) → pos (positive_part z) ≡ int_max z (pos 0)
positive_part-is (pos n) = omega (arith, ints, clamps)
positive_part-is (negsuc n) = omega (arith, ints, clamps)

-- ---- one end

missing-less : (e : Ext) (x y : ℤ) → x ≤ℤ y → missing e y ≤ missing e x
missing-less MinusInf x y up = omega arith
missing-less (At a) x y up = let p = positive_part-is (a -ℤ x) in let q = positive_part-is (a -ℤ y) in omega (arith, ints, clamps)
missing-less PlusInf x y up = omega arith

surplus-less : (e : Ext) (x y : ℤ) → y ≤ℤ x → surplus e y ≤ surplus e x
surplus-less MinusInf x y down = omega arith
surplus-less (At b) x y down = let p = positive_part-is (x -ℤ b) in let q = positive_part-is (y -ℤ b) in omega (arith, ints, clamps)
surplus-less PlusInf x y down = omega arith

missing-falls : (e : Ext) (x : ℤ) (t : ℕ) → t ≤ missing e x → missing e (x +ℤ pos t) + t ≤ missing e x
missing-falls MinusInf x t most = omega arith
missing-falls (At a) x t most =
    let p = positive_part-is (a -ℤ x) in let q = positive_part-is (a -ℤ (x +ℤ pos t)) in omega (arith, ints, clamps)
missing-falls PlusInf x t most = omega arith

surplus-falls : (e : Ext) (x : ℤ) (t : ℕ) → t ≤ surplus e x → surplus e (x +ℤ neg_ℤ (pos t)) + t ≤ surplus e x
surplus-falls MinusInf x t most = omega arith
surplus-falls (At b) x t most =
    let p = positive_part-is (x -ℤ b) in let q = positive_part-is ((x +ℤ neg_ℤ (pos t)) -ℤ b) in omega (arith, ints, clamps)
surplus-falls PlusInf x t most = omega arith

surplus-none : (e : Ext) (x : ℤ) → IsAtMost 1 e x → surplus e x ≡ 0
surplus-none MinusInf x most = refl
surplus-none (At b) x most = let p = positive_part-is (x -ℤ b) in omega (arith, ints, clamps)
surplus-none PlusInf x most = refl

missing-none : (e : Ext) (x : ℤ) → IsAtLeast 1 e x → missing e x ≡ 0
missing-none MinusInf x least = refl
missing-none (At a) x least = let p = positive_part-is (a -ℤ x) in omega (arith, ints, clamps)
missing-none PlusInf x least = refl

none-missing : (e : Ext) (x : ℤ) → missing e x ≡ 0 → IsAtLeast 1 e x
none-missing MinusInf x none = tt
none-missing (At a) x none = let p = positive_part-is (a -ℤ x) in omega (arith, ints, clamps)
none-missing PlusInf x none = tt

none-surplus : (e : Ext) (x : ℤ) → surplus e x ≡ 0 → IsAtMost 1 e x
none-surplus MinusInf x none = tt
none-surplus (At b) x none = let p = positive_part-is (x -ℤ b) in omega (arith, ints, clamps)
none-surplus PlusInf x none = tt

-- ---- a domain

pub inside : (items : List Ext) (x : ℤ) → violation items x ≡ 0 → InDomain 1 items x
inside items x none = record {
  least = none-missing (first items) x (omega arith);
  most = none-surplus (last items) x (omega arith);
}

pub violation-no_further : (items : List Ext) (x : ℤ) (forward : Bool) (t : ℕ) → HasRoom items x forward t
    → violation items (x +ℤ sends t forward) ≤ violation items x
violation-no_further items x true t room =
    let p = surplus-none (last items) (x +ℤ pos t) room in
    let q = missing-less (first items) x (x +ℤ pos t) (omega (arith, ints)) in
    omega arith
violation-no_further items x false t room =
    let p = missing-none (first items) (x +ℤ neg_ℤ (pos t)) room in
    let q = surplus-less (last items) x (x +ℤ neg_ℤ (pos t)) (omega (arith, ints)) in
    omega arith

pub violation-falls : (items : List Ext) (x : ℤ) (forward : Bool) (t : ℕ) → HasRoom items x forward t → t ≤ needed items x forward
    → violation items (x +ℤ sends t forward) + t ≤ violation items x
violation-falls items x true t room most =
    let p = surplus-none (last items) (x +ℤ pos t) room in
    let q = missing-falls (first items) x t most in
    omega arith
violation-falls items x false t room most =
    let p = missing-none (first items) (x +ℤ neg_ℤ (pos t)) room in
    let q = surplus-falls (last items) x t most in
    omega arith

-- what a flow lacks it has room for, since the ends are in order
missing-room : {low high : Ext} → AreEnds low high → (x : ℤ) (t : ℕ) → 1 ≤ t → t ≤ missing low x → IsAtMost 1 high (x +ℤ pos t)
missing-room (both {a = a} {b = b} order) x t some most = let p = positive_part-is (a -ℤ x) in omega (arith, ints, clamps)
missing-room from_a_point x t some most = tt
missing-room (to_a_point {b = b}) x t some most = absurd (omega arith)
missing-room everywhere x t some most = tt

surplus-room : {low high : Ext} → AreEnds low high → (x : ℤ) (t : ℕ) → 1 ≤ t → t ≤ surplus high x
    → IsAtLeast 1 low (x +ℤ neg_ℤ (pos t))
surplus-room (both {a = a} {b = b} order) x t some most = let p = positive_part-is (x -ℤ b) in omega (arith, ints, clamps)
surplus-room (from_a_point {a = a}) x t some most = absurd (omega arith)
surplus-room to_a_point x t some most = tt
surplus-room everywhere x t some most = tt

pub need-room : (items : List Ext) (x : ℤ) (forward : Bool) (t : ℕ) → IsCurveList items → 1 ≤ t → t ≤ needed items x forward
    → HasRoom items x forward t
need-room items x true t list some most = missing-room (list-ends items list) x t some most
need-room items x false t list some most = surplus-room (list-ends items list) x t some most

-- ---- free steps

pub shade-free : (up down forward : Bool) → IsFree (shade up down) forward → (if forward then up else down) ≡ true
shade-free true true true free = refl
shade-free true true false free = refl
shade-free true false true free = refl
shade-free true false false free = free
shade-free false true true free = free
shade-free false true false free = refl
shade-free false false true free = free
shade-free false false false free = free

distance-above : (e : Ext) (x : ℤ) (t : ℕ) → is_below (At x) e ≡ true → t ≤ distance e x → IsAtMost 1 e (x +ℤ pos t)
distance-above MinusInf x t below most = tt
distance-above (At b) x t below most =
    let p = positive_part-is (x -ℤ b) in let q = positive_part-is (b -ℤ x) in omega (arith, ints, clamps)
distance-above PlusInf x t below most = tt

distance-below : (e : Ext) (x : ℤ) (t : ℕ) → is_below e (At x) ≡ true → t ≤ distance e x → IsAtLeast 1 e (x +ℤ neg_ℤ (pos t))
distance-below MinusInf x t below most = tt
distance-below (At b) x t below most =
    let p = positive_part-is (x -ℤ b) in let q = positive_part-is (b -ℤ x) in omega (arith, ints, clamps)
distance-below PlusInf x t below most = tt

-- a flow may move over a free step as far as to the end that it moves to
pub free-room : (items : List Ext) (x : ℤ) (forward : Bool) (t : ℕ) → IsFree (domain_colour items x) forward
    → t ≤ distance (if forward then last items else first items) x → HasRoom items x forward t
free-room items x true t free most = distance-above (last items) x t (shade-free _ _ true free) most
free-room items x false t free most = distance-below (first items) x t (shade-free _ _ false free) most

-- ---- a lacking flow is not free the other way

missing-not_free : (low : Ext) (x : ℤ) → 1 ≤ missing low x → is_below low (At x) ≡ false
missing-not_free MinusInf x some = absurd (omega arith)
missing-not_free (At a) x some = let p = positive_part-is (a -ℤ x) in grind (arith, ints, clamps)
missing-not_free PlusInf x some = refl

surplus-not_free : (high : Ext) (x : ℤ) → 1 ≤ surplus high x → is_below (At x) high ≡ false
surplus-not_free MinusInf x some = refl
surplus-not_free (At b) x some = let p = positive_part-is (x -ℤ b) in grind (arith, ints, clamps)
surplus-not_free PlusInf x some = absurd (omega arith)

pub need-not_free : (items : List Ext) (x : ℤ) (forward back : Bool) → 1 ≤ needed items x forward → back ≡ not forward
    → IsFree (domain_colour items x) back → ⊥
need-not_free items x true back some turned free =
    let e : is_below (first items) (At x) ≡ true = shade-free _ _ false (rw turned at free) in
    let f = missing-not_free (first items) x some in
    false≢true (sym f ∙ e)
need-not_free items x false back some turned free =
    let e : is_below (At x) (last items) ≡ true = shade-free _ _ true (rw turned at free) in
    let f = surplus-not_free (last items) x some in
    false≢true (sym f ∙ e)

pub needed-most : (items : List Ext) (x : ℤ) (forward : Bool) → needed items x forward ≤ violation items x
needed-most items x true = omega arith
needed-most items x false = omega arith

-- the same in the words of the code that measures the distance
pub room-ahead : (items : List Ext) (x : ℤ) (forward : Bool) (low high end : Ext) (room : ℕ) → low ≡ first items → high ≡ last items
    → end ≡ (if forward then high else low) → room ≡ distance end x → IsFree (domain_colour items x) forward
    → (amount : ℕ) → amount ≤ room → HasRoom items x forward amount
room-ahead items x true low high end room low_is high_is end_is room_is free amount most =
    free-room items x true amount free (rw (← high_is, ← end_is, ← room_is) most)
room-ahead items x false low high end room low_is high_is end_is room_is free amount most =
    free-room items x false amount free (rw (← low_is, ← end_is, ← room_is) most)
