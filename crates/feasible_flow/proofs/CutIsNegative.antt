-- The cut of a search is negative. No free step leaves its set, so an arc that leaves it carries its upper end or more, and
-- one that enters it its lower end or less. The flow across the set is the sum of divergences in it, which is 0; the sum of
-- ends is not greater on any arc, and less on the arc that lacks flow: it would lead from the outside into the set, or the
-- other way with a surplus.
use Rattle.std.proofs.Common.{◌≡◌, ℕ, ◌<◌, ◌≤◌, ℤ, pos, ◌-ℤ◌, ◌≤ℤ◌, ◌<ℤ◌, neg_ℤ, Bool, true, false, not, ◌&&◌, List, length, refl, sym, ◌∙◌, arith}
use Rattle.std.proofs.lemmas.Int.{ints, clamps, by_lt_z}
use Rattle.std.proofs.lemmas.Bool.{false≢true}
use Rattle.theory.specs.declared.ext.Ext.{Ext}
use Rattle.theory.specs.declared.ext.Ext.TheVariants.{MinusInf, At, PlusInf}
use Rattle.theory.specs.declared.colour.Colour.{Colour}
use Rattle.theory.specs.declared.network.Step.{Step}
use Rattle.theory.specs.Sums.{counted}
use Rattle.theory.specs.Ends.{IsFinite, whole, negated, is_below}
use Rattle.theory.specs.CurveList.{first, last}
use Rattle.theory.specs.Painting.{IsFree}
use Rattle.theory.specs.Network.{«at», tail, head, over_arcs, list_at}
use Rattle.theory.specs.Conserved.{IsConserved}
use Rattle.theory.specs.Cut.{holds, cut_end, cut_sum, IsNegativeCut}
use Rattle.theory.specs.Circuit.{begin_of, end_of}
use Rattle.theory.proofs.SumsBelow.{sum_below-equal_terms}
use Rattle.theory.proofs.SumLaw.{crossing, cut_law-conserved}
use Rattle.net_incidence.specs.Graph.{Graph, bare}
use Rattle.net_incidence.specs.Incidence.{over}
use Rattle.net_incidence.specs.PartOf.{crossing_end}
use Rattle.painted_search.specs.Path.{IsFreeCut}
use Rattle.net_incidence.specs.WithoutBases.{without_bases}
use Rattle.net_incidence.proofs.WithoutBases.{without_bases-items, without_bases-network}
use Rattle.feasible_flow.specs.Painting.{shade, domain_colour, painting}
use Rattle.feasible_flow.specs.Violations.{missing, surplus, needed}
use Rattle.feasible_flow.proofs.DomainEnds.{AreEnds, both, from_a_point, to_a_point, everywhere, list-ends}
use Rattle.feasible_flow.proofs.OneArc.{positive_part-is}
use Rattle.feasible_flow.proofs.Lists.{AreCurves}

-- ---- one end

-- not free forward: the flow is at or above the upper end
pub record IsFull (end : Ext) (flow : ℤ) : Type 0 where
  pub finite : IsFinite end
  pub most : whole end ≤ℤ flow

pub full-above : {low high : Ext} → AreEnds low high → (x : ℤ) → is_below (At x) high ≡ false → IsFull high x
full-above (both order) x not_below = record { finite = refl; most = omega (arith, ints) }
full-above from_a_point x not_below = absurd (false≢true (sym not_below))
full-above to_a_point x not_below = record { finite = refl; most = omega (arith, ints) }
full-above everywhere x not_below = absurd (false≢true (sym not_below))

pub full-below : {low high : Ext} → AreEnds low high → (x : ℤ) → is_below low (At x) ≡ false → IsFull (negated low) (neg_ℤ x)
full-below (both order) x not_below = record { finite = refl; most = omega (arith, ints) }
full-below from_a_point x not_below = record { finite = refl; most = omega (arith, ints) }
full-below to_a_point x not_below = absurd (false≢true (sym not_below))
full-below everywhere x not_below = absurd (false≢true (sym not_below))

surplus-above : (high : Ext) (x : ℤ) → 1 ≤ surplus high x → whole high <ℤ x
surplus-above MinusInf x some = absurd (omega arith)
surplus-above (At b) x some = let p = positive_part-is (x -ℤ b) in omega (arith, ints, clamps)
surplus-above PlusInf x some = absurd (omega arith)

missing-below : (low : Ext) (x : ℤ) → 1 ≤ missing low x → whole (negated low) <ℤ neg_ℤ x
missing-below MinusInf x some = absurd (omega arith)
missing-below (At a) x some = let p = positive_part-is (a -ℤ x) in omega (arith, ints, clamps)
missing-below PlusInf x some = absurd (omega arith)

-- ---- one arc, by whether the set holds its tail and its head

abbrev crossed : ℤ → Bool → Bool → ℤ
crossed x at_tail at_head = counted (at_tail && not at_head) x -ℤ counted (not at_tail && at_head) x

-- no free step over the arc leaves the set
record NoneLeaves (items : List Ext) (x : ℤ) (at_tail at_head : Bool) : Type 0 where
  forward : at_tail ≡ true → at_head ≡ false → IsFree (domain_colour items x) true → ⊥
  backward : at_head ≡ true → at_tail ≡ false → IsFree (domain_colour items x) false → ⊥

pub shade-up : (up down : Bool) → (IsFree (shade up down) true → ⊥) → up ≡ false
shade-up true true never = absurd (never refl)
shade-up true false never = absurd (never refl)
shade-up false down never = refl

pub shade-down : (up down : Bool) → (IsFree (shade up down) false → ⊥) → down ≡ false
shade-down true true never = absurd (never refl)
shade-down false true never = absurd (never refl)
shade-down up false never = refl

crossing-full : (items : List Ext) (x : ℤ) (at_tail at_head : Bool) → AreEnds (first items) (last items) → NoneLeaves items x at_tail at_head
    → IsFull (crossing_end items at_tail at_head) (crossed x at_tail at_head)
crossing-full items x true true ends none = record { finite = refl; most = omega (arith, ints) }
crossing-full items x true false ends none =
    let full = full-above ends x (shade-up _ _ (none.forward refl refl)) in
    record { finite = full.finite; most = let m = full.most in omega (arith, ints) }
crossing-full items x false true ends none =
    let full = full-below ends x (shade-down _ _ (none.backward refl refl)) in
    record { finite = full.finite; most = let m = full.most in omega (arith, ints) }
crossing-full items x false false ends none = record { finite = refl; most = omega (arith, ints) }

-- the arc that lacks flow forward enters the set, the arc with a surplus leaves it
crossing-lacks : (items : List Ext) (x : ℤ) (forward at_tail at_head : Bool) → 1 ≤ needed items x forward
    → at_tail ≡ not forward → at_head ≡ forward → whole (crossing_end items at_tail at_head) <ℤ crossed x at_tail at_head
crossing-lacks items x true false true some tail_out head_in = let m = missing-below (first items) x some in omega (arith, ints)
crossing-lacks items x false true false some tail_in head_out = let m = surplus-above (last items) x some in omega (arith, ints)
crossing-lacks items x true true at_head some tail_out head_in = absurd (false≢true (sym tail_out))
crossing-lacks items x true false false some tail_out head_in = absurd (false≢true head_in)
crossing-lacks items x false false at_head some tail_in head_out = absurd (false≢true tail_in)
crossing-lacks items x false true true some tail_in head_out = absurd (false≢true (sym head_out))

-- ---- all arcs

-- also where the painting is another one on other arcs
pub cut-full : (g : Graph) (lists : List (List Ext)) (x : List ℤ) (colours : ℕ → Colour) (side : List Bool) (from to : ℕ) → AreCurves lists
    → IsFreeCut (bare g) colours side from to → (j : ℕ) → j < length g.arcs → colours j ≡ painting lists x j
    → IsFull (cut_end (without_bases g lists) side j) (crossing (without_bases g lists) (holds side) («at» x) j)
cut-full g lists x colours side from to curves cut j there same =
    rw (without_bases-items g lists j)
    (crossing-full (list_at lists j) («at» x j) (holds side (tail (bare g) j)) (holds side (head (bare g) j))
    (list-ends (list_at lists j) (curves.are_lists j))
    (record {
      forward = λ tail_in head_out free. false≢true (sym head_out ∙ cut.none_leaves (over j true) there (rw same free) tail_in);
      backward = λ head_in tail_out free. false≢true (sym tail_out ∙ cut.none_leaves (over j false) there (rw same free) head_in);
    }))

cut-lacks : (g : Graph) (lists : List (List Ext)) (x : List ℤ) (side : List Bool) (s : Step)
    → 1 ≤ needed (list_at lists s.arc.0) («at» x s.arc.0) s.forward
    → holds side (end_of (bare g) s) ≡ true → holds side (begin_of (bare g) s) ≡ false
    → whole (cut_end (without_bases g lists) side s.arc.0) <ℤ crossing (without_bases g lists) (holds side) («at» x) s.arc.0
cut-lacks g lists x side s some end_in begin_out =
    rw (without_bases-items g lists s.arc.0)
    (crossing-lacks (list_at lists s.arc.0) («at» x s.arc.0) s.forward _ _ some (by_tail s.forward end_in begin_out) (by_head s.forward end_in begin_out))
  where
    by_tail : (forward : Bool) → holds side (end_of (bare g) (record s { forward = forward })) ≡ true
        → holds side (begin_of (bare g) (record s { forward = forward })) ≡ false → holds side (tail (bare g) s.arc.0) ≡ not forward
    by_tail true e b = b
    by_tail false e b = e

    by_head : (forward : Bool) → holds side (end_of (bare g) (record s { forward = forward })) ≡ true
        → holds side (begin_of (bare g) (record s { forward = forward })) ≡ false → holds side (head (bare g) s.arc.0) ≡ forward
    by_head true e b = e
    by_head false e b = b

-- with c the sum of the ends and f the flow across
less : (c f : ℤ) → f ≡ pos 0 → (f ≤ℤ c → ⊥) → c <ℤ pos 0
less c f none never = by_lt_z c f (λ below. rw (← none) below) (λ above. absurd (never above))

pub negative-cut : (g : Graph) (lists : List (List Ext)) (x : List ℤ) (side : List Bool) (s : Step) → AreCurves lists → length lists ≡ length g.arcs
    → IsConserved (bare g) («at» x) → s.arc.0 < length g.arcs → 1 ≤ needed (list_at lists s.arc.0) («at» x s.arc.0) s.forward
    → IsFreeCut (bare g) (painting lists x) side (end_of (bare g) s) (begin_of (bare g) s)
    → IsNegativeCut (without_bases g lists) side
negative-cut g lists x side s curves one_each conserved there some cut =
    let net = without_bases g lists in
    let full = cut-full g lists x (painting lists x) side (end_of (bare g) s) (begin_of (bare g) s) curves cut in
    let lacks = cut-lacks g lists x side s some cut.holds_from cut.lacks_to in
    let none = cut_law-conserved net (holds side) («at» x) (without_bases-network g lists curves.are_lists one_each) conserved in
    record {
      counts = λ j l. (full j l refl).finite;
      negative = less (cut_sum net side) (over_arcs net (crossing net (holds side) («at» x))) none
          (λ above.
          let same = sum_below-equal_terms (length g.arcs) (λ j. whole (cut_end net side j)) (crossing net (holds side) («at» x))
          (λ j l. (full j l refl).most) above s.arc.0 there in
          absurd (omega (arith, ints)));
    }
