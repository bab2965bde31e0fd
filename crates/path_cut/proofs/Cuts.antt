-- What the cuts of the two searches say. Where no endless step leaves the set, each end that an arc adds to the sum is finite, so the cut
-- bounds all flows. Where no step with room leaves it, each arc carries the end that it adds, so the last arc carries their sum.
use Rattle.std.proofs.Common.{◌≡◌, ◌≢◌, ℕ, zero, suc, ◌+◌, ◌*◌, ◌<◌, ◌==◌, ℤ, pos, ◌≤ℤ◌, Bool, true, false, IsTrue, not, if◌then◌else◌, List, length, refl, sym, ap, ◌∙◌, arith}
use Rattle.std.proofs.lemmas.Int.{ints}
use Rattle.std.proofs.lemmas.Bool.{ne_eqb, false≢true}
use Rattle.theory.specs.declared.ext.Ext.{Ext}
use Rattle.theory.specs.declared.ext.Ext.TheVariants.{MinusInf, At, PlusInf}
use Rattle.theory.specs.declared.colour.Colour.{Colour}
use Rattle.theory.specs.declared.colour.Colour.TheVariants.{Red}
use Rattle.theory.specs.declared.network.Step.{Step}
use Rattle.theory.specs.Sums.{sum_below}
use Rattle.theory.specs.Ends.{IsFinite, is_finite, negated, whole}
use Rattle.theory.specs.CurveList.{first, last}
use Rattle.theory.specs.Limits.{IsWithin, number_most}
use Rattle.theory.specs.Painting.{IsFree}
use Rattle.theory.specs.Network.{Network, IsNetwork, «at», tail, head, list_at}
use Rattle.theory.specs.Feasible.{IsFeasibleFlow}
use Rattle.theory.specs.Cut.{holds, cut_end}
use Rattle.theory.specs.Circuit.{step}
use Rattle.theory.proofs.Bounds.{negated-within, nothing_within}
use Rattle.theory.proofs.Rings.{scale_mono}
use Rattle.theory.proofs.SumLaw.{crossing}
use Rattle.theory.proofs.SumsBelow.{sum_below-order}
use Rattle.net_incidence.specs.Graph.{Graph, bare}
use Rattle.net_incidence.specs.Incidence.{over}
use Rattle.net_incidence.specs.PartOf.{crossing_end}
use Rattle.net_incidence.specs.WithoutBases.{without_bases}
use Rattle.net_incidence.proofs.WithoutBases.{without_bases-items}
use Rattle.painted_search.specs.Path.{IsFreePath, IsFreeCut}
use Rattle.feasible_flow.specs.Painting.{painting}
use Rattle.feasible_flow.proofs.DomainEnds.{AreEnds, both, from_a_point, to_a_point, everywhere, list-ends, first-within, last-within}
use Rattle.feasible_flow.proofs.OneArc.{shade-free}
use Rattle.feasible_flow.proofs.CutIsNegative.{shade-up, shade-down, cut-full}
use Rattle.feasible_flow.proofs.Lists.{AreCurves}
use Rattle.path_cut.specs.Paths.{IsPath, leading_end}
use Rattle.path_cut.specs.Paintings.{but, endless, endless_colour}
use Rattle.path_cut.specs.GreatestFlow.{return_arc, start, goal, HasReturn, IsFlowBound, IsCutOf, IsOpenPath}
use Rattle.path_cut.specs.Augmenting.{top_most}
use Rattle.path_cut.proofs.FlowBound.{crosses, cut-bound}
use Rattle.path_cut.proofs.Walks.{free-path}

-- ---- all arcs but one

pub but-other : (m j : ℕ) (colours : ℕ → Colour) → j ≢ m → but m colours j ≡ colours j
but-other m j colours apart = rw (ne_eqb j m apart) refl

by_case : (b : Bool) (colour : Colour) (forward : Bool) → IsFree (if b then Red else colour) forward → b ≡ false
by_case true colour forward free = absurd (false≢true free)
by_case false colour forward free = refl

-- a free step isn't over the arc that is left out
pub but-free : (m : ℕ) (colours : ℕ → Colour) (j : ℕ) (forward : Bool) → IsFree (but m colours j) forward → IsFree (colours j) forward
but-free m colours j forward free = rw (by_case (j == m) (colours j) forward free) at free

pub but-apart : (m : ℕ) (colours : ℕ → Colour) (j : ℕ) (forward : Bool) → IsFree (but m colours j) forward → (j == m) ≡ false
but-apart m colours j forward free = by_case (j == m) (colours j) forward free

below-last : (n m j : ℕ) → m + 1 ≡ n → j < n → (j == m) ≡ false → j < m
below-last n m j count there apart = grind (arith)

pub but-below : (n m : ℕ) (colours : ℕ → Colour) (j : ℕ) (forward : Bool) → m + 1 ≡ n → j < n → IsFree (but m colours j) forward → j < m
but-below n m colours j forward count there free = below-last n m j count there (but-apart m colours j forward free)

-- ---- endless steps

endless-high : {low high : Ext} → AreEnds low high → not (is_finite high) ≡ true → high ≡ PlusInf
endless-high (both order) none = absurd (false≢true none)
endless-high from_a_point none = refl
endless-high to_a_point none = absurd (false≢true none)
endless-high everywhere none = refl

endless-low : {low high : Ext} → AreEnds low high → not (is_finite low) ≡ true → negated low ≡ PlusInf
endless-low (both order) none = absurd (false≢true none)
endless-low from_a_point none = absurd (false≢true none)
endless-low to_a_point none = refl
endless-low everywhere none = refl

endless-leads : (items : List Ext) (forward : Bool) → AreEnds (first items) (last items) → IsFree (endless_colour items) forward
    → leading_end items forward ≡ PlusInf
endless-leads items true ends free = endless-high ends (shade-free _ _ true free)
endless-leads items false ends free = endless-low ends (shade-free _ _ false free)

finite-not : (b : Bool) → not b ≡ false → b ≡ true
finite-not true none = refl
finite-not false none = absurd (false≢true (sym none))

turned-finite : (e : Ext) → is_finite e ≡ true → IsFinite (negated e)
turned-finite MinusInf finite = finite
turned-finite (At a) finite = refl
turned-finite PlusInf finite = finite

crossing-finite : (items : List Ext) (at_tail at_head : Bool)
    → (at_tail ≡ true → at_head ≡ false → IsFree (endless_colour items) true → ⊥)
    → (at_head ≡ true → at_tail ≡ false → IsFree (endless_colour items) false → ⊥)
    → IsFinite (crossing_end items at_tail at_head)
crossing-finite items true true forward backward = refl
crossing-finite items true false forward backward = finite-not _ (shade-up _ _ (forward refl refl))
crossing-finite items false true forward backward = turned-finite (first items) (finite-not _ (shade-down _ _ (backward refl refl)))
crossing-finite items false false forward backward = refl

crossing-within : (items : List Ext) (at_tail at_head : Bool) → IsWithin number_most (whole (first items)) → IsWithin number_most (whole (last items))
    → IsWithin number_most (whole (crossing_end items at_tail at_head))
crossing-within items true true low high = nothing_within number_most
crossing-within items true false low high = high
crossing-within items false true low high = negated-within number_most (first items) low
crossing-within items false false low high = nothing_within number_most

sum-within : (n : ℕ) (f : ℕ → ℤ) → ((k : ℕ) → k < n → IsWithin number_most (f k)) → sum_below n f ≤ℤ pos (n * number_most)
sum-within zero f each = omega (arith, ints)
sum-within (suc n) f each =
    let before = sum-within n f (λ k l. each k (omega arith)) in
    let here = (each n (omega arith)).1 in
    omega (arith, ints)

bound-more : (net : Network) (s t : ℤ) → IsFlowBound net s → s ≤ℤ t → IsFlowBound net t
bound-more net s t bound more q x some flow =
    let most = bound q x some flow in
    let scaled = scale_mono q s t more in
    omega (arith, ints)

module _ (g : Graph) (lists : List (List Ext)) (curves : AreCurves lists) (good : IsNetwork (without_bases g lists))
    (returns : HasReturn (without_bases g lists)) (last_arc : ℕ) (last_is : last_arc + 1 ≡ length g.arcs) where
  abbrev net : Network
  net = without_bases g lists

  pub last-arc : last_arc ≡ return_arc net
  last-arc = omega (arith, last_is)

  pub start-is : (from : ℕ) → from ≡ head (bare g) last_arc → from ≡ start net
  start-is from is = is ∙ ap (head (bare g)) last-arc

  pub goal-is : (to : ℕ) → to ≡ tail (bare g) last_arc → to ≡ goal net
  goal-is to is = is ∙ ap (tail (bare g)) last-arc

  pub free-path-is : (colours : ℕ → Colour) (walk : List Step) (from to : ℕ) → from ≡ start net → to ≡ goal net
      → IsFreePath (bare g) colours walk from to → IsPath net walk (start net) (goal net)
  free-path-is colours walk from to from_is to_is path = rw (from_is, to_is) at (of_graph (free-path (bare g) colours walk from to path))
    where
      of_graph : IsPath (bare g) walk from to → IsPath net walk from to
      of_graph p = record {
        not_empty = p.not_empty;
        there = p.there;
        begins = p.begins;
        joined = p.joined;
        ends = p.ends;
        begins_differ = p.begins_differ;
        ends_differ = p.ends_differ;
        arcs_differ = p.arcs_differ;
      }

  pub others-is : (colours : ℕ → Colour) (walk : List Step) (from to : ℕ) → IsFreePath (bare g) (but last_arc colours) walk from to
      → (k : ℕ) → k < length walk → (step walk k).arc.0 < return_arc net
  others-is colours walk from to path k l =
      rw (← last-arc)
      (but-below (length g.arcs) last_arc colours (step walk k).arc.0 (step walk k).forward last_is (path.there k l) (path.free k l))

  -- the path of the first search is open
  pub open-is : (walk : List Step) (from to : ℕ) → from ≡ start net → to ≡ goal net
      → IsFreePath (bare g) (but last_arc (endless lists)) walk from to → IsOpenPath net walk
  open-is walk from to from_is to_is path = record {
    path = free-path-is (but last_arc (endless lists)) walk from to from_is to_is path;
    others = others-is (endless lists) walk from to path;
    endless = λ k l.
        rw (without_bases-items g lists (step walk k).arc.0)
        (endless-leads (list_at lists (step walk k).arc.0) (step walk k).forward
        (list-ends (list_at lists (step walk k).arc.0) (curves.are_lists (step walk k).arc.0))
        (but-free last_arc (endless lists) (step walk k).arc.0 (step walk k).forward (path.free k l)));
  }

  other-colour : (colours : ℕ → Colour) (j : ℕ) → j < return_arc net → but last_arc colours j ≡ colours j
  other-colour colours j below = but-other last_arc j colours (λ same. let e = last-arc in omega (arith, below, same, e))

  -- the cut of the first search bounds all flows
  finite-ends : (side : List Bool) (from to : ℕ) → IsFreeCut (bare g) (but last_arc (endless lists)) side from to → (j : ℕ)
      → j < return_arc net → IsFinite (cut_end net side j)
  finite-ends side from to cut j below =
      let there : j < length g.arcs = omega (arith, below) in
      let same = other-colour (endless lists) j below in
      rw (without_bases-items g lists j)
      (crossing-finite (list_at lists j) (holds side (tail (bare g) j)) (holds side (head (bare g) j))
      (λ tail_in head_out free. false≢true (sym head_out ∙ cut.none_leaves (over j true) there (rw same free) tail_in))
      (λ head_in tail_out free. false≢true (sym tail_out ∙ cut.none_leaves (over j false) there (rw same free) head_in)))

  ends-within : (side : List Bool) (j : ℕ) → IsWithin number_most (whole (cut_end net side j))
  ends-within side j =
      rw (without_bases-items g lists j)
      (crossing-within (list_at lists j) (holds side (tail (bare g) j)) (holds side (head (bare g) j))
      (first-within (list_at lists j) (curves.within j)) (last-within (list_at lists j) (curves.are_lists j) (curves.within j)))

  pub bound-is : (side : List Bool) (from to : ℕ) → from ≡ start net → to ≡ goal net
      → IsFreeCut (bare g) (but last_arc (endless lists)) side from to → IsFlowBound net (pos (top_most net))
  bound-is side from to from_is to_is cut =
      let ends : ℕ → ℤ = λ j. whole (cut_end net side j) in
      let sum : ℤ = sum_below (return_arc net) ends in
      let most : sum ≤ℤ pos (return_arc net * number_most) = sum-within (return_arc net) ends (λ j l. ends-within side j) in
      bound-more net sum (pos (top_most net))
      (cut-bound net side sum good returns
      (record {
        holds_start = rw from_is at cut.holds_from;
        lacks_goal = rw to_is at cut.lacks_to;
        counts = finite-ends side from to cut;
        sum = refl;
      }))
      (omega (arith, ints))

  -- the cut of the last search holds what the last arc carries
  pub cut-is : (x : List ℤ) (side : List Bool) (from to : ℕ) → from ≡ start net → to ≡ goal net → IsFeasibleFlow 1 net x
      → IsFreeCut (bare g) (but last_arc (painting lists x)) side from to → IsCutOf net side («at» x (return_arc net))
  cut-is x side from to from_is to_is flow cut =
      let m = return_arc net in
      let ends : ℕ → ℤ = λ j. whole (cut_end net side j) in
      let held : IsTrue (holds side (start net)) = rw from_is at cut.holds_from in
      let lacked : holds side (goal net) ≡ false = rw to_is at cut.lacks_to in
      let full = (λ (j : ℕ) (below : j < m). cut-full g lists x (but last_arc (painting lists x)) side from to curves cut j (omega (arith, below))
      (other-colour (painting lists x) j below)) in
      let of_sum : IsCutOf net side (sum_below m ends) =
      record { holds_start = held; lacks_goal = lacked; counts = λ j below. (full j below).finite; sum = refl } in
      let carried = crosses net side x good returns flow.conserved held lacked in
      let least = sum_below-order m ends (crossing net (holds side) («at» x)) (λ j below. (full j below).most) in
      let most = cut-bound net side (sum_below m ends) good returns of_sum 1 x (omega arith) flow in
      let same : sum_below m ends ≡ «at» x m = omega (arith, ints) in
      record { holds_start = held; lacks_goal = lacked; counts = of_sum.counts; sum = same }
