-- A cut bounds every flow. Nothing conserved crosses a set of nodes on the whole. The last arc enters the set, so what it carries is
-- what crosses on the other arcs, and on each of these a feasible flow over q is at most q times the end that the arc adds to the sum.
use Rattle.std.proofs.Common.{◌≡◌, ℕ, suc, ℤ, pos, ◌+ℤ◌, ◌-ℤ◌, ◌*ℤ◌, neg_ℤ, ◌≤ℤ◌, Bool, true, false, not, ◌&&◌, if◌then◌else◌, List, length, sym, ap, arith}
use Rattle.std.proofs.lemmas.Int.{ints}
use Rattle.std.proofs.lemmas.Bool.{false≢true}
use Rattle.theory.specs.declared.ext.Ext.{Ext}
use Rattle.theory.specs.declared.ext.Ext.TheVariants.{At}
use Rattle.theory.specs.Sums.{sum_below, counted}
use Rattle.theory.specs.Ends.{IsFinite, whole, negated, IsBetween}
use Rattle.theory.specs.CurveList.{first, last}
use Rattle.theory.specs.Network.{Network, IsNetwork, «at», tail, head, curve}
use Rattle.theory.specs.Conserved.{IsConserved}
use Rattle.theory.specs.Cut.{holds, cut_end}
use Rattle.theory.proofs.Refusals.{at_most_end, at_least_end}
use Rattle.theory.proofs.SumsBelow.{sum_below-mul, sum_below-order}
use Rattle.theory.proofs.SumLaw.{crossing, cut_law-conserved}
use Rattle.path_cut.specs.GreatestFlow.{return_arc, start, goal, HasReturn, IsFlowBound, IsCutOf, IsGreatestFlow}
use Rattle.path_cut.specs.FlowLaws.{FlowCutLaw, FlowExactLaw}

-- what crosses on an arc, by whether the set holds its tail and its head
crossing-below : (q : ℕ) (low high : Ext) (x : ℤ) (at_tail at_head : Bool) → IsBetween q low high x
    → IsFinite (if at_tail && not at_head then high else (if not at_tail && at_head then negated low else (At (pos 0))))
    → (counted (at_tail && not at_head) x -ℤ counted (not at_tail && at_head) x)
    ≤ℤ (pos q *ℤ whole (if at_tail && not at_head then high else (if not at_tail && at_head then negated low else (At (pos 0)))))
crossing-below q low high x true true between finite = omega (arith, ints)
crossing-below q low high x true false between finite = let e = at_most_end q high x finite between.most in omega (arith, ints)
crossing-below q low high x false true between finite = let e = at_least_end q low x finite between.least in omega (arith, ints)
crossing-below q low high x false false between finite = omega (arith, ints)

-- an arc that enters the set
enters : (at_tail at_head : Bool) (x : ℤ) → at_head ≡ true → at_tail ≡ false
    → (counted (at_tail && not at_head) x -ℤ counted (not at_tail && at_head) x) ≡ neg_ℤ x
enters true at_head x held lacked = absurd (false≢true (sym lacked))
enters false true x held lacked = omega (arith, ints)
enters false false x held lacked = absurd (false≢true held)

split-last : (n m : ℕ) (f : ℕ → ℤ) → n ≡ suc m → sum_below n f ≡ sum_below m f +ℤ f m
split-last n m f e = ap (λ k. sum_below k f) e

pub last-count : (net : Network) → HasReturn net → length net.arcs ≡ suc (return_arc net)
last-count net returns = let some = returns.some in omega arith

-- the last arc carries what crosses on the others
pub crosses : (net : Network) (side : List Bool) (x : List ℤ) → IsNetwork net → HasReturn net → IsConserved net («at» x)
    → holds side (start net) ≡ true → holds side (goal net) ≡ false
    → «at» x (return_arc net) ≡ sum_below (return_arc net) (crossing net (holds side) («at» x))
crosses net side x good returns conserved held lacked =
    let m = return_arc net in
    let f = crossing net (holds side) («at» x) in
    let none = cut_law-conserved net (holds side) («at» x) good conserved in
    let split = split-last (length net.arcs) m f (last-count net returns) in
    let here : f m ≡ neg_ℤ («at» x m) = enters (holds side (tail net m)) (holds side (head net m)) («at» x m) held lacked in
    omega (arith, ints)

pub cut-bound : (net : Network) (side : List Bool) (t : ℤ) → IsNetwork net → HasReturn net → IsCutOf net side t → IsFlowBound net t
cut-bound net side t good returns cut q x some flow =
    let m = return_arc net in
    let last_is = crosses net side x good returns flow.conserved cut.holds_start cut.lacks_goal in
    let bound = sum_below-order m (crossing net (holds side) («at» x)) (λ j. pos q *ℤ whole (cut_end net side j))
    (λ j l. crossing-below q (first (curve net j).items) (last (curve net j).items) («at» x j) (holds side (tail net j)) (holds side (head net j))
    (flow.in_domains j (let n = last-count net returns in omega arith)) (cut.counts j l)) in
    let total = sum_below-mul m (pos q) (λ j. whole (cut_end net side j)) in
    rw (← cut.sum) (omega (arith, ints))

pub flow-cut : FlowCutLaw
flow-cut net side x t good returns flow is cut = record { carried = (x, flow, is); most = cut-bound net side t good returns cut }

at-most : (net : Network) (s t : ℤ) → IsGreatestFlow net s → IsFlowBound net t → s ≤ℤ t
at-most net s t top bound =
    let carried = top.carried in
    let is = carried.2 in
    let most = bound 1 carried.0 (omega arith) carried.1 in
    omega (arith, ints)

pub flow-exact : FlowExactLaw
flow-exact net = record {
  one = λ s t a b. let up = at-most net s t a b.most in let down = at-most net t s b a.most in omega (arith, ints);
  not_both = λ t top none.
      let above = none t in
      let beyond = above.2 in
      let most = top.most 1 above.0 (omega arith) above.1 in
      absurd (omega (arith, ints));
}
