-- Where a search is stuck the settled nodes are a negative cut. No step from them leads to a node outside, at any tension, so each
-- arc that leaves them carries the greatest flow of its domain and each that enters them the least. So the cut sum is the flow
-- that leaves the set less what enters it, which is minus the sum of the excesses in the set: none is below 0, and that of the
-- source is above it. Where no node has a surplus, all excesses are 0, since their sum is.
use Rattle.std.proofs.Common.{◌≡◌, ℕ, ◌<◌, ℤ, pos, ◌+ℤ◌, ◌-ℤ◌, neg_ℤ, ◌≤ℤ◌, ◌<ℤ◌, Bool, true, false, not, ◌&&◌, IsTrue, if◌then◌else◌, List, length, refl, sym, ap, ◌∙◌, subst, arith}
use Rattle.std.proofs.lemmas.Int.{ints}
use Rattle.std.proofs.lemmas.Bool.{false≢true}
use Rattle.theory.specs.declared.ext.Ext.{Ext}
use Rattle.theory.specs.declared.ext.Ext.TheVariants.{At}
use Rattle.theory.specs.Sums.{counted}
use Rattle.theory.specs.Ends.{IsFinite, whole, negated}
use Rattle.theory.specs.CurveList.{IsCurveList, first, last}
use Rattle.theory.specs.Network.{«at», curve, tail, head, list_at}
use Rattle.theory.specs.Conserved.{divergence, IsConserved}
use Rattle.theory.specs.Cut.{holds, IsNegativeCut, cut_end}
use Rattle.theory.specs.OnCurve.{IsOnCurve}
use Rattle.theory.proofs.SumLaw.{cut_law, crossing, divergence-total}
use Rattle.theory.proofs.SumsBelow.{sum_below-same, sum_below-zero, sum_below-add, sum_below-term, sum_below-equal_terms}
use Rattle.net_incidence.specs.Graph.{Graph, bare}
use Rattle.net_incidence.specs.Incidence.{over}
use Rattle.painted_search.specs.Room.{Room}
use Rattle.net_incidence.specs.WithoutBases.{without_bases}
use Rattle.net_incidence.proofs.WithoutBases.{without_bases-items, without_bases-network}
use Rattle.kilter_solver.specs.Excess.{excess, AreExcesses}
use Rattle.kilter_solver.specs.Spread.{is_near, IsStuck}
use Rattle.kilter_solver.specs.Routing.{IsBalancing}
use Rattle.kilter_solver.proofs.NextFlow.{at_last, at_first}

-- ---- one arc

-- what it adds to the cut sum is what crosses the set on it
pub record IsCrossing (end : Ext) (z : ℤ) : Type 0 where
  pub finite : IsFinite end
  pub same : whole end ≡ z

crossing_is : (low high : Ext) (x : ℤ) (at_tail at_head : Bool) → (at_tail ≡ true → at_head ≡ false → high ≡ At x)
    → (at_tail ≡ false → at_head ≡ true → low ≡ At x)
    → IsCrossing (if at_tail && not at_head then high else (if not at_tail && at_head then negated low else (At (pos 0))))
    (counted (at_tail && not at_head) x -ℤ counted (not at_tail && at_head) x)
crossing_is low high x true true out into = record { finite = refl; same = omega (arith, ints) }
crossing_is low high x true false out into = rw (out refl refl) (record { finite = refl; same = omega (arith, ints) })
crossing_is low high x false true out into = rw (into refl refl) (record { finite = refl; same = omega (arith, ints) })
crossing_is low high x false false out into = record { finite = refl; same = omega (arith, ints) }

module _ (g : Graph) (lists : List (List Ext)) (source : ℕ) (w : Room) (are : (j : ℕ) → IsCurveList (list_at lists j))
    (balancing : IsBalancing g lists w) (stuck : IsStuck g lists source w) where
  crosses : (j : ℕ) → j < length g.arcs → IsCrossing (cut_end (without_bases g lists) w.reached j) (crossing (without_bases g lists) (holds w.reached) («at» w.flows) j)
  crosses j l =
      let a = tail (bare g) j in
      let b = head (bare g) j in
      let x = «at» w.flows j in
      let u = «at» w.potentials in
      let items = list_at lists j in
      let a_there = g.good.tails j l in
      let b_there = g.good.heads j l in
      let unmet : (i : ℕ) → holds w.reached i ≡ false → IsTrue (is_near w i) → ⊥ =
      (λ i out near. false≢true (sym out ∙ stuck.all_settled i near)) in
      crossing_is (first (curve (without_bases g lists) j).items) (last (curve (without_bases g lists) j).items) x (holds w.reached a) (holds w.reached b)
      (λ done out.
      ap last (without_bases-items g lists j)
      ∙ at_last items x (u b -ℤ u a) (are j)
      (λ t least. (stuck.spread.tried (over j true) l done (λ e. omega arith)).pairs t least (λ near. absurd (unmet b out near))))
      (λ out done.
      ap first (without_bases-items g lists j)
      ∙ at_first items x (u b -ℤ u a) (are j)
      (λ t most.
      let e : neg_ℤ (neg_ℤ t) ≡ t = omega (arith, ints) in
      subst (λ (z : ℤ). IsOnCurve 1 items x z) e
      ((stuck.spread.tried (over j false) l done (λ e. omega arith)).pairs (neg_ℤ t) (omega (arith, ints)) (λ near. absurd (unmet a out near)))))

  counted-opposite : (b : Bool) (d e : ℤ) → e ≡ neg_ℤ d → counted b d +ℤ counted b e ≡ pos 0
  counted-opposite true d e h = omega (arith, ints)
  counted-opposite false d e h = omega (arith, ints)

  counted-positive : (b : Bool) (e : ℤ) → (IsTrue b → pos 0 ≤ℤ e) → pos 0 ≤ℤ counted b e
  counted-positive true e h = h refl
  counted-positive false e h = omega (arith, ints)

  counted-in : (b : Bool) (e : ℤ) → IsTrue b → counted b e ≡ e
  counted-in true e h = refl
  counted-in false e h = absurd (false≢true h)

  pub stuck-cut : source < g.nodes → pos 0 <ℤ excess w source → IsNegativeCut (without_bases g lists) w.reached
  stuck-cut there surplus =
      let net = without_bases g lists in
      let n = g.nodes in
      let good = without_bases-network g lists are balancing.one_list_each in
      let law = cut_law net (holds w.reached) («at» w.flows) good in
      let across = sum_below-same (length g.arcs) (λ j. whole (cut_end net w.reached j)) (crossing net (holds w.reached) («at» w.flows))
      (λ j l. (crosses j l).same) in
      let opposite = sum_below-add n (λ i. counted (holds w.reached i) (divergence net («at» w.flows) i)) (λ i. counted (holds w.reached i) (excess w i)) in
      let none = sum_below-zero n (λ i. counted (holds w.reached i) (divergence net («at» w.flows) i) +ℤ counted (holds w.reached i) (excess w i))
      (λ i l. counted-opposite (holds w.reached i) (divergence net («at» w.flows) i) (excess w i) (balancing.excesses.exact i l)) in
      let least = sum_below-term n source (λ i. counted (holds w.reached i) (excess w i)) there
      (λ i l. counted-positive (holds w.reached i) (excess w i) (stuck.none_lacks i)) in
      let here = counted-in (holds w.reached source) (excess w source) stuck.spread.root in
      record { counts = λ j l. (crosses j l).finite; negative = omega (arith, ints) }

-- ---- no surplus

pub sated-conserved : (g : Graph) (lists : List (List Ext)) (x : List ℤ) (e : ℕ → ℤ) → ((j : ℕ) → IsCurveList (list_at lists j))
    → length lists ≡ length g.arcs → AreExcesses (bare g) («at» x) e → ((i : ℕ) → i < g.nodes → e i ≤ℤ pos 0) → IsConserved (without_bases g lists) («at» x)
sated-conserved g lists x e are one_each excesses sated i l =
    let net = without_bases g lists in
    let total = divergence-total net («at» x) (without_bases-network g lists are one_each) in
    let zeros = sum_below-zero g.nodes (λ (k : ℕ). pos 0) (λ k h. refl) in
    let same = sum_below-equal_terms g.nodes (λ k. pos 0) (divergence net («at» x))
    (λ k h. let d = excesses.exact k h in let s = sated k h in omega (arith, ints)) (omega (arith, ints)) i l in
    omega (arith, ints)
