-- What holds of a net with curves within the limits: its arcs have two different ends, span ends are within the limits, and of
-- one arc the lower span end is not above the upper one.
use Rattle.std.proofs.Common.{◌≡◌, ◌≢◌, ℕ, zero, suc, ◌<◌, ℤ, pos, ◌+ℤ◌, ◌≤ℤ◌, neg_ℤ, Bool, true, false, if◌then◌else◌, List, [], ◌∷◌, length, map, get_or, refl, sym, ap, arith}
use Rattle.std.proofs.lemmas.Int.{ints}
use Rattle.theory.specs.declared.ext.Ext.{Ext}
use Rattle.theory.specs.declared.ext.Ext.TheVariants.{MinusInf, At, PlusInf}
use Rattle.theory.specs.declared.network.Step.{Step}
use Rattle.theory.specs.Ends.{IsFinite, is_finite, whole, negated}
use Rattle.theory.specs.CurveList.{IsCurveList, Listing, last, before_last}
use Rattle.theory.specs.Span.{span_low, span_high}
use Rattle.theory.specs.Limits.{AreWithin, number_most, IsWithin}
use Rattle.theory.specs.Network.{Network, tail, head, curve}
use Rattle.theory.specs.Circuit.{begin_of, end_of, span_end}
use Rattle.theory.proofs.Shape.{Shape, Rest, ends, goes_on, single, long, shape_by_place}
use Rattle.theory.proofs.Bounds.{negated-within, span_low-within, span_high-within}
use Rattle.net_incidence.specs.Graph.{Graph}
use Rattle.net_incidence.specs.Incidence.{over}
use Rattle.net_incidence.specs.WithoutBases.{without_base, without_bases}

pub record IsBounded (net : Network) : Type 0 where
  pub tails : (j : ℕ) → j < length net.arcs → tail net j < net.nodes
  pub heads : (j : ℕ) → j < length net.arcs → head net j < net.nodes
  pub no_loops : (j : ℕ) → j < length net.arcs → tail net j ≢ head net j
  pub curves : (j : ℕ) → j < length net.arcs → IsCurveList (curve net j).items
  pub within : (j : ℕ) → j < length net.arcs → AreWithin number_most (curve net j).items

-- ---- the curves of a net

-- what holds of each curve's list
each-curve : {C : Type 0} (P : List Ext → Type 0) (items : C → List Ext) (curves : List C) (none : Listing) → ((c : C) → P (items c))
    → (j : ℕ) → j < length curves → P (get_or (map without_base (map items curves)) j none).items
each-curve P items [] none holds j l = absurd (omega arith)
each-curve P items (c ∷ curves) none holds zero l = holds c
each-curve P items (c ∷ curves) none holds (suc j) l = each-curve P items curves none holds j (omega arith)

pub items-at : {C : Type 0} (items : C → List Ext) (curves : List C) (none : Listing) (c : C) (j : ℕ) → j < length curves
    → (get_or (map without_base (map items curves)) j none).items ≡ items (get_or curves j c)
items-at items [] none c j l = absurd (omega arith)
items-at items (d ∷ curves) none c zero l = refl
items-at items (d ∷ curves) none c (suc j) l = items-at items curves none c j (omega arith)

pub bounded : {C : Type 0} (items : C → List Ext) (g : Graph) (curves : List C) → length curves ≡ length g.arcs
    → ((c : C) → IsCurveList (items c)) → ((c : C) → AreWithin number_most (items c)) → IsBounded (without_bases g (map items curves))
bounded items g curves one_each lists within = record {
  tails = g.good.tails;
  heads = g.good.heads;
  no_loops = g.good.no_loops;
  curves = λ j l. each-curve IsCurveList items curves _ lists j (omega arith);
  within = λ j l. each-curve (AreWithin number_most) items curves _ within j (omega arith);
}

-- ---- the ends of steps

begins_over : (net : Network) (j : ℕ) (forward : Bool) → IsBounded net → j < length net.arcs → begin_of net (over j forward) < net.nodes
begins_over net j true good l = good.tails j l
begins_over net j false good l = good.heads j l

pub begin-there : (net : Network) (s : Step) → IsBounded net → s.arc.0 < length net.arcs → begin_of net s < net.nodes
begin-there net s good l = begins_over net s.arc.0 s.forward good l

ends_over : (net : Network) (j : ℕ) (forward : Bool) → IsBounded net → j < length net.arcs → end_of net (over j forward) < net.nodes
ends_over net j true good l = good.heads j l
ends_over net j false good l = good.tails j l

pub end-there : (net : Network) (s : Step) → IsBounded net → s.arc.0 < length net.arcs → end_of net s < net.nodes
end-there net s good l = ends_over net s.arc.0 s.forward good l

apart_over : (net : Network) (j : ℕ) (forward : Bool) → IsBounded net → j < length net.arcs
    → begin_of net (over j forward) ≢ end_of net (over j forward)
apart_over net j true good l same = good.no_loops j l same
apart_over net j false good l same = good.no_loops j l (sym same)

pub ends-apart : (net : Network) (s : Step) → IsBounded net → s.arc.0 < length net.arcs → begin_of net s ≢ end_of net s
ends-apart net s good l = apart_over net s.arc.0 s.forward good l

-- ---- span ends within the limits

over-within : (net : Network) (j : ℕ) (forward : Bool) → IsBounded net → j < length net.arcs
    → IsWithin number_most (whole (span_end net (over j forward)))
over-within net j true good l = span_high-within number_most (curve net j).items (good.within j l)
over-within net j false good l =
    negated-within number_most (span_low (curve net j).items) (span_low-within number_most (curve net j).items (good.within j l))

pub span_end-within : (net : Network) (s : Step) → IsBounded net → s.arc.0 < length net.arcs → IsWithin number_most (whole (span_end net s))
span_end-within net s good l = over-within net s.arc.0 s.forward good l

-- ---- the lower span end is not above the upper one

-- the slope before the last point is the last one, and slopes rise
last_slope : (l : Ext) {s : ℤ} {m : Ext} {rest : List Ext} → Rest s m rest → s ≤ℤ whole (before_last (l ∷ At s ∷ m ∷ rest))
last_slope l ends = omega (arith, ints)
last_slope l (goes_on {b = b} rises below more) = let later = last_slope (At b) more in omega (arith, ints)

if_high : (b : Bool) (e : Ext) → IsFinite (if b then PlusInf else e) → (if b then PlusInf else e) ≡ e
if_high true e finite = let never : false ≡ true = finite in cc
if_high false e finite = refl

low_of : (l : Ext) (s : ℤ) (rest : List Ext) → IsFinite (span_low (l ∷ At s ∷ rest)) → span_low (l ∷ At s ∷ rest) ≡ At s
low_of MinusInf s rest finite = refl
low_of (At a) s rest finite = let never : false ≡ true = finite in cc
low_of PlusInf s rest finite = refl

span_of_shape : {items : List Ext} → Shape items → IsFinite (span_low items) → IsFinite (span_high items)
    → whole (span_low items) ≤ℤ whole (span_high items)
span_of_shape single low high = let never : false ≡ true = low in cc
span_of_shape (long {l = l} {m = m} {s = s} {rest = rest} below more) low high =
    let items = l ∷ At s ∷ m ∷ rest in
    let low_is = ap whole (low_of l s (m ∷ rest) low) in
    let high_is = ap whole (if_high (is_finite (last items)) (before_last items) high) in
    let rises = last_slope l more in
    omega (arith, ints)

negated_whole : (e : Ext) → whole (negated e) ≡ neg_ℤ (whole e)
negated_whole MinusInf = refl
negated_whole (At a) = refl
negated_whole PlusInf = refl

negated_finite : (e : Ext) → IsFinite (negated e) → IsFinite e
negated_finite MinusInf finite = finite
negated_finite (At a) finite = refl
negated_finite PlusInf finite = finite

-- there and back over an arc, span ends do not fall below 0
pub there_and_back : (net : Network) (j : ℕ) → IsBounded net → j < length net.arcs → IsFinite (span_end net (over j true))
    → IsFinite (span_end net (over j false)) → pos 0 ≤ℤ (whole (span_end net (over j true)) +ℤ whole (span_end net (over j false)))
there_and_back net j good l high low =
    let items = (curve net j).items in
    let order = span_of_shape (shape_by_place items (good.curves j l)) (negated_finite (span_low items) low) high in
    let turned = negated_whole (span_low items) in
    omega (arith, ints)
