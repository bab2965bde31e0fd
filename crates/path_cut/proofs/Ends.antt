-- Ends of domains and spans, as a flow or a tension moves.
use Rattle.std.proofs.Common.{◌≡◌, ℕ, ◌-◌, ◌<◌, ◌≤◌, ℤ, pos, ◌+ℤ◌, neg_ℤ, ◌≤ℤ◌, Bool, true, false, List, length, sym, ◌∙◌, ⊎_elim, arith}
use Rattle.std.proofs.lemmas.Int.{ints}
use Rattle.std.proofs.lemmas.Bool.{cases_lt, false≢true}
use Rattle.theory.specs.declared.ext.Ext.{Ext}
use Rattle.theory.specs.declared.ext.Ext.TheVariants.{MinusInf, At, PlusInf}
use Rattle.theory.specs.Ends.{is_finite, IsFinite, negated, IsAtLeast, IsAtMost}
use Rattle.theory.specs.CurveList.{IsCurveList, item, first, last, before_last}
use Rattle.theory.specs.Domain.{InDomain}
use Rattle.theory.specs.Span.{span_low, span_high}
use Rattle.theory.specs.Circuit.{passing_end}
use Rattle.theory.specs.Sent.{sends}
use Rattle.theory.proofs.Places.{first_at, before_last_at, longer}
use Rattle.theory.proofs.ConjugateList.{conjugate-is_list}
use Rattle.feasible_flow.specs.Violations.{HasRoom}
use Rattle.feasible_flow.proofs.DomainEnds.{AreEnds, list-ends}
use Rattle.path_cut.specs.Paths.{leading_end}

-- ---- moving on

pub least_on : (e : Ext) (x y : ℤ) → x ≤ℤ y → IsAtLeast 1 e x → IsAtLeast 1 e y
least_on MinusInf x y up least = tt
least_on (At a) x y up least = omega (arith, ints)
least_on PlusInf x y up least = tt

pub most_on : (e : Ext) (x y : ℤ) → y ≤ℤ x → IsAtMost 1 e x → IsAtMost 1 e y
most_on MinusInf x y down most = tt
most_on (At b) x y down most = omega (arith, ints)
most_on PlusInf x y down most = tt

-- a flow that has room for what it moves by stays in its domain
pub moved-inside : (items : List Ext) (x : ℤ) (forward : Bool) (t : ℕ) → HasRoom items x forward t → InDomain 1 items x
    → InDomain 1 items (x +ℤ sends t forward)
moved-inside items x true t room within =
    record { least = least_on (first items) x (x +ℤ pos t) (omega (arith, ints)) within.least; most = room }
moved-inside items x false t room within =
    record { least = room; most = most_on (last items) x (x +ℤ neg_ℤ (pos t)) (omega (arith, ints)) within.most }

-- ---- where a domain has no end the span has one

endless-not_finite : (e : Ext) → e ≡ PlusInf → is_finite e ≡ false
endless-not_finite e endless = rw endless cc

turned-not_finite : (e : Ext) → negated e ≡ PlusInf → is_finite e ≡ false
turned-not_finite MinusInf endless = cc
turned-not_finite (At a) endless = cc
turned-not_finite PlusInf endless = cc

-- a list whose first item is infinite has more than one
longer-first : (items : List Ext) → IsCurveList items → is_finite (first items) ≡ false → 3 ≤ length items
longer-first items list endless =
    ⊎_elim
    (λ (long : 2 < length items). omega arith)
    (λ (short : length items ≤ 2).
    let finite : is_finite (item items 0) ≡ true = list.single_finite (omega (arith, list.odd)) in
    absurd (false≢true (sym endless ∙ (rw (first_at items) at finite))))
    (cases_lt 2 (length items))

pub open-finite : (items : List Ext) (forward : Bool) → IsCurveList items → leading_end items forward ≡ PlusInf
    → IsFinite (passing_end items forward)
open-finite items true list endless =
    let none = endless-not_finite (last items) endless in
    let more = longer items list none in
    let is = before_last_at items (length items - 2) (omega arith) in
    let finite : IsFinite (before_last items) = rw (is) at (list.inner_finite (length items - 2) (omega arith) (omega arith)) in
    rw none finite
open-finite items false list endless =
    let none = turned-not_finite (first items) endless in
    let more = longer-first items list none in
    let finite = list.inner_finite 1 (omega arith) (omega arith) in
    rw none (turned (item items 1) finite)
  where
    turned : (e : Ext) → IsFinite e → IsFinite (negated e)
    turned MinusInf finite = finite
    turned (At a) finite = finite
    turned PlusInf finite = finite

-- ---- spans

pub span-ends : (items : List Ext) → IsCurveList items → AreEnds (span_low items) (span_high items)
span-ends items list =
    let turned = conjugate-is_list items list in
    rw (turned.domain_low, turned.domain_high) at (list-ends _ turned.is_list)
