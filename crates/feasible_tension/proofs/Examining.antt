-- One arc is examined: its tension against the ends of its span. The upper end bounds the step forward over the arc, the negated
-- lower end the step backward. So a tension between the ends is the same as both bounds; a tension past an end is past just one
-- of the two, and lowering the node where that step ends to the bound is what the relaxing asks for.
use Rattle.std.proofs.Common.{◌≡◌, ℕ, ◌<◌, ℤ, neg_ℤ, ◌≤ℤ◌, ◌<ℤ◌, Bool, true, false, if◌then◌else◌, Option, Some, None, List, length, map, get_or, SFits, w64, to_z, of_z, to_z-of_z, refl, sym, ap, ◌∙◌, subst, arith}
use Rattle.std.proofs.lemmas.Int.{ints}
use Rattle.theory.specs.declared.ext.Ext.{Ext}
use Rattle.theory.specs.declared.ext.Ext.TheVariants.{MinusInf, At, PlusInf}
use Rattle.theory.specs.declared.network.NodeId.{NodeId}
use Rattle.theory.specs.declared.network.Step.{Step}
use Rattle.theory.specs.Ends.{IsFinite, whole, negated, IsAtLeast, IsAtMost, IsBetween}
use Rattle.theory.specs.Span.{span_low, span_high}
use Rattle.theory.specs.Network.{Network, «at», curve}
use Rattle.theory.specs.Conserved.{tension}
use Rattle.theory.specs.Circuit.{end_of, span_end}
use Rattle.net_incidence.specs.Graph.{Graph, bare}
use Rattle.net_incidence.specs.Incidence.{over}
use Rattle.painted_search.specs.Room.{Room}
use Rattle.painted_search.specs.Writes.{with_potential, relabelled}
use Rattle.net_incidence.specs.WithoutBases.{without_bases}
use Rattle.feasible_tension.specs.Bounds.{most_at, IsHeld, lowered, IsLowered, IsExamined}
use Rattle.feasible_tension.specs.Kept.{IsKept}
use Rattle.feasible_tension.specs.Passed.{IsPassedBy}
use Rattle.feasible_tension.proofs.Bounded.{items-at}

-- ---- inside the span

most_of : (e : Ext) (x : ℤ) → IsAtMost 1 e x → IsFinite e → x ≤ℤ whole e
most_of MinusInf x most finite = let never : false ≡ true = finite in cc
most_of (At a) x most finite = omega (arith, ints)
most_of PlusInf x most finite = let never : false ≡ true = finite in cc

least_of : (e : Ext) (x : ℤ) → IsAtLeast 1 e x → IsFinite (negated e) → neg_ℤ x ≤ℤ whole (negated e)
least_of MinusInf x least finite = let never : false ≡ true = finite in cc
least_of (At a) x least finite = omega (arith, ints)
least_of PlusInf x least finite = let never : false ≡ true = finite in cc

-- the ends of an arc's span, as they were read
pub record AreEnds (net : Network) (j : ℕ) (low high : Ext) : Type 0 where
  pub low_is : low ≡ span_low (curve net j).items
  pub high_is : high ≡ span_high (curve net j).items

pub inside-held : (net : Network) (u : List ℤ) (j : ℕ) (low high : Ext) (t : ℤ) → AreEnds net j low high → t ≡ tension net («at» u) j
    → IsBetween 1 low high t → IsHeld net u j
inside-held net u j low high t ends is inside = record {
  forward = λ finite.
      let most = most_of (span_high (curve net j).items) t (subst (λ e. IsAtMost 1 e t) ends.high_is inside.most) finite in
      omega (arith, ints);
  backward = λ finite.
      let least = least_of (span_low (curve net j).items) t (subst (λ e. IsAtLeast 1 e t) ends.low_is inside.least) finite in
      omega (arith, ints);
}

-- ---- outside it

chosen : (forward : Bool) (low l high h : Ext) (bound : ℤ) → low ≡ l → high ≡ h → (if forward then high else (negated low)) ≡ At bound
    → (if forward then h else (negated l)) ≡ At bound
chosen true low l high h bound low_is high_is e = sym high_is ∙ e
chosen false low l high h bound low_is high_is e = ap negated (sym low_is) ∙ e

-- what the step's span end is
pub passed-end : (net : Network) (j : ℕ) (low high : Ext) (t : ℤ) (s : Step) (bound : ℤ) → AreEnds net j low high → IsPassedBy j low high t s bound
    → span_end net s ≡ At bound
passed-end net j low high t s bound ends passed =
    let at_arc = subst (λ j. AreEnds net j low high) (sym passed.over_arc) ends in
    chosen s.forward low _ high _ bound at_arc.low_is at_arc.high_is passed.length_is

above_over : (net : Network) (u : List ℤ) (j : ℕ) (forward : Bool) (bound t : ℤ) → t ≡ tension net («at» u) j
    → whole (span_end net (over j forward)) ≡ bound → bound <ℤ (if forward then t else (neg_ℤ t))
    → most_at net u (over j forward) <ℤ «at» u (end_of net (over j forward))
above_over net u j true bound t is end passed = omega (arith, ints)
above_over net u j false bound t is end passed = omega (arith, ints)

pub passed-lowered : (net : Network) (j : ℕ) (v w : Room) (low high : Ext) (t : ℤ) (s : Step) (bound : ℤ) (node : ℕ) → AreEnds net j low high
    → t ≡ tension net («at» v.potentials) j → IsPassedBy j low high t s bound → node ≡ end_of net s → w ≡ lowered net v s
    → IsLowered net j v node w
passed-lowered net j v w low high t s bound node ends is passed node_is made =
    let end = passed-end net j low high t s bound ends passed in
    record {
      pace = s;
      over_arc = passed.over_arc;
      finite = subst IsFinite (sym end) refl;
      above = above_over net v.potentials s.arc.0 s.forward bound t
          (is ∙ ap (tension net («at» v.potentials)) (sym passed.over_arc)) (ap whole end) passed.passed;
      node_is = node_is;
      made = made;
    }

-- ---- the writes

pub lowered-made : (net : Network) (v mid w : Room) (s : Step) (i : ℕ) (x : ℤ) → mid ≡ with_potential v i x → w ≡ relabelled mid i s
    → i ≡ end_of net s → x ≡ most_at net v.potentials s → w ≡ lowered net v s
lowered-made net v mid w s i x potential label end most =
    label
    ∙ ap (λ (m : Room). relabelled m i s) potential
    ∙ ap (λ i. relabelled (with_potential v i x) i s) end
    ∙ ap (λ x. relabelled (with_potential v (end_of net s) x) (end_of net s) s) most

-- ---- what was read

pub ends-read : {C : Type 0} (items : C → List Ext) (g : Graph) (curves : List C) (c : C) (j : ℕ) (low high : Ext) → j < length curves
    → low ≡ span_low (items (get_or curves j c)) → high ≡ span_high (items (get_or curves j c)) → AreEnds (without_bases g (map items curves)) j low high
ends-read items g curves c j low high there low_is high_is =
    let same = items-at items curves _ c j there in
    record { low_is = low_is ∙ ap span_low (sym same); high_is = high_is ∙ ap span_high (sym same) }

pub tension-read : (g : Graph) (lists : List (List Ext)) (u read : List ℤ) (j : ℕ) (t : ℤ) → SFits w64 t → t ≡ tension (bare g) («at» read) j
    → read ≡ u → to_z w64 (of_z w64 t) ≡ tension (without_bases g lists) («at» u) j
tension-read g lists u read j t fits is same = to_z-of_z fits ∙ is ∙ ap (λ u. tension (bare g) («at» u) j) same

-- ---- what is kept

pub kept-more : (v w new : Room) → IsKept v w → IsKept w new → IsKept v new
kept-more v w new first second = record {
  nodes = second.nodes ∙ first.nodes;
  arcs = second.arcs ∙ first.arcs;
  flows = second.flows ∙ first.flows;
}

kept_same : (v : Room) → IsKept v v
kept_same v = record { nodes = refl; arcs = refl; flows = refl }

kept_lowered : (net : Network) (v : Room) (s : Step) → IsKept v (lowered net v s)
kept_lowered net v s = record { nodes = refl; arcs = refl; flows = refl }

pub examined-kept : (net : Network) (j : ℕ) (v w : Room) (result : Option NodeId) → IsExamined net j v result w → IsKept v w
examined-kept net j v w None done = subst (IsKept v) (sym done.1) (kept_same v)
examined-kept net j v w (Some node) done = subst (IsKept v) (sym done.made) (kept_lowered net v done.pace)
