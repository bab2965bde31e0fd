-- Slack of one arc, the least of all, and tight steps.
use Rattle.std.proofs.Common.{◌≡◌, ◌⊎◌, ℕ, ◌+◌, ◌<◌, ◌≤◌, ℤ, pos, ◌+ℤ◌, ◌-ℤ◌, neg_ℤ, Bool, true, false, not, Option, Some, None, List, refl, sym, ap, ◌∙◌, inl, inr, ⊎_elim, arith}
use Rattle.std.proofs.lemmas.Int.{ints, clamps}
use Rattle.std.proofs.lemmas.Bool.{cases_lt, false≢true}
use Rattle.std.proofs.Math.Nat.{min-le_left, min-le_right, min-eq_left, min-eq_right}
use Rattle.theory.specs.declared.ext.Ext.{Ext}
use Rattle.theory.specs.declared.ext.Ext.TheVariants.{MinusInf, At, PlusInf}
use Rattle.theory.specs.Sums.{positive_part}
use Rattle.theory.specs.Ends.{IsFinite, whole, negated, is_below, IsAtLeast, IsAtMost}
use Rattle.theory.specs.Span.{span_low, span_high, InSpan}
use Rattle.theory.specs.Limits.{IsWithin, AreWithin, number_most}
use Rattle.theory.specs.Painting.{IsFree}
use Rattle.theory.specs.Circuit.{passing_end}
use Rattle.theory.proofs.Bounds.{negated-within, span_low-within, span_high-within}
use Rattle.feasible_flow.specs.Painting.{shade}
use Rattle.feasible_flow.proofs.DomainEnds.{AreEnds, both, from_a_point, to_a_point, everywhere}
use Rattle.feasible_flow.proofs.OneArc.{positive_part-is, shade-free}
use Rattle.path_cut.specs.Paintings.{tight_colour}
use Rattle.path_cut.specs.Slack.{above, below, slack, lesser, IsLeastOf}
use Rattle.path_cut.specs.Lifting.{lift, HasSlack}

-- ---- the least

pub none-some : {s : ℕ} → None ≡ Some s → ⊥
none-some e = cc

some-same : {s t : ℕ} → Some s ≡ Some t → s ≡ t
some-same e = cc

by-last : (n j : ℕ) → j < n + 1 → (j < n) ⊎ (j ≡ n)
by-last n j l = ⊎_elim (λ (before : j < n). inl before) (λ (past : n ≤ j). inr (omega arith)) (cases_lt j n)

pub least-more : (n : ℕ) (f : ℕ → Option ℕ) (least next : Option ℕ) → IsLeastOf n f least → next ≡ f n → IsLeastOf (n + 1) f (lesser least next)
least-more n f None None before is = λ j l.
    ⊎_elim (λ (old : j < n). before j old) (λ (here : j ≡ n). ap f here ∙ sym is) (by-last n j l)
least-more n f None (Some b) before is = record {
  least = λ j s l e.
      ⊎_elim
      (λ (old : j < n). absurd (none-some (sym (before j old) ∙ e)))
      (λ (here : j ≡ n). let same = some-same (is ∙ ap f (sym here) ∙ e) in omega arith)
      (by-last n j l);
  met = (n, omega arith, sym is);
}
least-more n f (Some a) None before is = record {
  least = λ j s l e.
      ⊎_elim
      (λ (old : j < n). before.least j s old e)
      (λ (here : j ≡ n). absurd (none-some (is ∙ ap f (sym here) ∙ e)))
      (by-last n j l);
  met = (let m = before.met in (m.0, (let old = m.1 in omega arith), m.2));
}
least-more n f (Some a) (Some b) before is = record {
  least = λ j s l e.
      ⊎_elim
      (λ (old : j < n). let most = before.least j s old e in let less = min-le_left a b in omega arith)
      (λ (here : j ≡ n). let same = some-same (is ∙ ap f (sym here) ∙ e) in let less = min-le_right a b in omega arith)
      (by-last n j l);
  met =
      ⊎_elim
      (λ (less : a < b). (let m = before.met in (m.0, (let old = m.1 in omega arith), m.2 ∙ ap (λ z. Some z) (sym (min-eq_left (omega arith))))))
      (λ (more : b ≤ a). (n, omega arith, sym is ∙ ap (λ z. Some z) (sym (min-eq_right more))))
      (cases_lt a b);
}

-- ---- the slack of one arc

above-has : (high : Ext) (v : ℤ) (t : ℕ) → IsAtMost 1 high v → ((s : ℕ) → above high v ≡ Some s → t ≤ s) → IsAtMost 1 high (v +ℤ pos t)
above-has MinusInf v t most least = tt
above-has (At b) v t most least =
    let less = least (positive_part (b -ℤ v)) refl in let p = positive_part-is (b -ℤ v) in omega (arith, ints, clamps)
above-has PlusInf v t most least = tt

below-has : (low : Ext) (v : ℤ) (t : ℕ) → IsAtLeast 1 low v → ((s : ℕ) → below low v ≡ Some s → t ≤ s) → IsAtLeast 1 low (v -ℤ pos t)
below-has MinusInf v t most least = tt
below-has (At a) v t most least =
    let less = least (positive_part (v -ℤ a)) refl in let p = positive_part-is (v -ℤ a) in omega (arith, ints, clamps)
below-has PlusInf v t most least = tt

pub slack-has : (items : List Ext) (v : ℤ) (at_tail at_head : Bool) (t : ℕ) → InSpan 1 items v
    → ((s : ℕ) → slack (span_low items) (span_high items) v at_tail at_head ≡ Some s → t ≤ s) → HasSlack items v at_tail at_head t
slack-has items v true true t within least = tt
slack-has items v true false t within least = above-has (span_high items) v t within.most least
slack-has items v false true t within least = below-has (span_low items) v t within.least least
slack-has items v false false t within least = tt

-- no slack where the span has no end
above-none : {low high : Ext} → AreEnds low high → (v : ℤ) → above high v ≡ None → high ≡ PlusInf
above-none (both order) v none = absurd (none-some (sym none))
above-none from_a_point v none = refl
above-none to_a_point v none = absurd (none-some (sym none))
above-none everywhere v none = refl

below-none : {low high : Ext} → AreEnds low high → (v : ℤ) → below low v ≡ None → low ≡ MinusInf
below-none (both order) v none = absurd (none-some (sym none))
below-none from_a_point v none = absurd (none-some (sym none))
below-none to_a_point v none = refl
below-none everywhere v none = refl

pub leaving-none : (low high : Ext) (v : ℤ) (at_tail at_head : Bool) → AreEnds low high → slack low high v at_tail at_head ≡ None
    → at_tail ≡ true → at_head ≡ false → high ≡ PlusInf
leaving-none low high v true true ends none tail_in head_out = absurd (false≢true (sym head_out))
leaving-none low high v true false ends none tail_in head_out = above-none ends v none
leaving-none low high v false at_head ends none tail_in head_out = absurd (false≢true tail_in)

pub entering-none : (low high : Ext) (v : ℤ) (at_tail at_head : Bool) → AreEnds low high → slack low high v at_tail at_head ≡ None
    → at_tail ≡ false → at_head ≡ true → low ≡ MinusInf
entering-none low high v false false ends none tail_out head_in = absurd (false≢true head_in)
entering-none low high v false true ends none tail_out head_in = below-none ends v none
entering-none low high v true at_head ends none tail_out head_in = absurd (false≢true (sym tail_out))

-- ---- tight steps

free-up : (up down : Bool) → up ≡ true → IsFree (shade up down) true
free-up true true is = refl
free-up true false is = refl
free-up false down is = absurd (false≢true is)

free-down : (up down : Bool) → down ≡ true → IsFree (shade up down) false
free-down true true is = refl
free-down false true is = refl
free-down up false is = absurd (false≢true is)

not-true : (b : Bool) → not b ≡ true → b ≡ false
not-true true is = absurd (false≢true is)
not-true false is = refl

not-false : (b : Bool) → b ≡ false → not b ≡ true
not-false true is = absurd (false≢true (sym is))
not-false false is = refl

high-tight : {low high : Ext} → AreEnds low high → (v : ℤ) → IsAtMost 1 high v → is_below (At v) high ≡ false → IsFinite high × (v ≡ whole high)
high-tight (both order) v most not_below = (refl, omega (arith, ints))
high-tight from_a_point v most not_below = absurd (false≢true (sym not_below))
high-tight to_a_point v most not_below = (refl, omega (arith, ints))
high-tight everywhere v most not_below = absurd (false≢true (sym not_below))

low-tight : {low high : Ext} → AreEnds low high → (v : ℤ) → IsAtLeast 1 low v → is_below low (At v) ≡ false
    → IsFinite (negated low) × (neg_ℤ v ≡ whole (negated low))
low-tight (both order) v least not_below = (refl, omega (arith, ints))
low-tight from_a_point v least not_below = (refl, omega (arith, ints))
low-tight to_a_point v least not_below = absurd (false≢true (sym not_below))
low-tight everywhere v least not_below = absurd (false≢true (sym not_below))

-- the tension in the direction of a step
abbrev pub directed : ℤ → Bool → ℤ
directed v true = v
directed v false = neg_ℤ v

pub tight-is : (items : List Ext) (v : ℤ) (forward : Bool) → AreEnds (span_low items) (span_high items) → InSpan 1 items v
    → IsFree (tight_colour items v) forward → IsFinite (passing_end items forward) × (directed v forward ≡ whole (passing_end items forward))
tight-is items v true ends within free = high-tight ends v within.most (not-true _ (shade-free _ _ true free))
tight-is items v false ends within free = low-tight ends v within.least (not-true _ (shade-free _ _ false free))

pub passing-within : (items : List Ext) (forward : Bool) → AreWithin number_most items → IsWithin number_most (whole (passing_end items forward))
passing-within items true within = span_high-within number_most items within
passing-within items false within = negated-within number_most (span_low items) (span_low-within number_most items within)

-- ---- the step that becomes tight

pub record IsBridge (items : List Ext) (v : ℤ) (at_tail at_head : Bool) (t : ℕ) : Type 0 where
  pub forward : Bool
  pub tail_is : at_tail ≡ forward
  pub head_is : at_head ≡ not forward
  pub tight : IsFree (tight_colour items ((v +ℤ lift t at_head) -ℤ lift t at_tail)) forward

reached-high : (high : Ext) (v : ℤ) (t : ℕ) → above high v ≡ Some t → is_below (At ((v +ℤ pos t) -ℤ pos 0)) high ≡ false
reached-high MinusInf v t is = refl
reached-high (At b) v t is = let same = some-same is in let p = positive_part-is (b -ℤ v) in grind (arith, ints, clamps)
reached-high PlusInf v t is = absurd (none-some is)

reached-low : (low : Ext) (v : ℤ) (t : ℕ) → below low v ≡ Some t → is_below low (At ((v +ℤ pos 0) -ℤ pos t)) ≡ false
reached-low MinusInf v t is = absurd (none-some is)
reached-low (At a) v t is = let same = some-same is in let p = positive_part-is (v -ℤ a) in grind (arith, ints, clamps)
reached-low PlusInf v t is = absurd (none-some is)

pub bridge-is : (items : List Ext) (v : ℤ) (at_tail at_head : Bool) (t : ℕ)
    → slack (span_low items) (span_high items) v at_tail at_head ≡ Some t → IsBridge items v at_tail at_head t
bridge-is items v true true t is = absurd (none-some is)
bridge-is items v true false t is = record {
  forward = true;
  tail_is = refl;
  head_is = refl;
  tight = free-up _ _ (not-false _ (reached-high (span_high items) v t is));
}
bridge-is items v false true t is = record {
  forward = false;
  tail_is = refl;
  head_is = refl;
  tight = free-down _ _ (not-false _ (reached-low (span_low items) v t is));
}
bridge-is items v false false t is = absurd (none-some is)

-- ---- how much it is

above-most : (high : Ext) (v : ℤ) (n t : ℕ) → IsWithin number_most (whole high) → IsWithin n v → above high v ≡ Some t → t ≤ number_most + n
above-most MinusInf v n t within near is = absurd (none-some is)
above-most (At b) v n t within near is =
    let same = some-same is in
    let p = positive_part-is (b -ℤ v) in
    let high = within.1 in
    let low = near.0 in
    omega (arith, ints, clamps)
above-most PlusInf v n t within near is = absurd (none-some is)

below-most : (low : Ext) (v : ℤ) (n t : ℕ) → IsWithin number_most (whole low) → IsWithin n v → below low v ≡ Some t → t ≤ number_most + n
below-most MinusInf v n t within near is = absurd (none-some is)
below-most (At a) v n t within near is =
    let same = some-same is in
    let p = positive_part-is (v -ℤ a) in
    let low = within.0 in
    let high = near.1 in
    omega (arith, ints, clamps)
below-most PlusInf v n t within near is = absurd (none-some is)

pub slack-most : (items : List Ext) (v : ℤ) (at_tail at_head : Bool) (n t : ℕ) → AreWithin number_most items → IsWithin n v
    → slack (span_low items) (span_high items) v at_tail at_head ≡ Some t → t ≤ number_most + n
slack-most items v true true n t within near is = absurd (none-some is)
slack-most items v true false n t within near is = above-most (span_high items) v n t (span_high-within number_most items within) near is
slack-most items v false true n t within near is = below-most (span_low items) v n t (span_low-within number_most items within) near is
slack-most items v false false n t within near is = absurd (none-some is)
