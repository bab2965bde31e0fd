-- The numbers of a certificate are sums over arcs or over the steps of a walk. Each term is far below the greatest number of a
-- certificate, and there are so few that the sums are below it too.
use Rattle.std.proofs.Common.{ℕ, zero, suc, ◌+◌, ◌-◌, ◌*◌, ◌^◌, ◌<◌, ◌≤◌, ℤ, pos, Bool, true, false, List, length, arith, subst}
use Rattle.std.specs.Prelude.{if◌then◌else◌}
use Rattle.std.proofs.Math.Nat.{mul-le-mul_left}
use Rattle.std.proofs.lemmas.Int.{ints}
use Rattle.theory.specs.declared.ext.Ext.{Ext}
use Rattle.theory.specs.declared.ext.Ext.TheVariants.{At}
use Rattle.theory.specs.declared.network.Step.{Step}
use Rattle.theory.specs.Limits.{IsWithin, AreWithin, number_most, flow_most, sum_most, grounded_arcs_most}
use Rattle.theory.specs.Ends.{whole, negated}
use Rattle.theory.specs.CurveList.{IsCurveList, first, last}
use Rattle.theory.specs.Sums.{sum_below}
use Rattle.theory.specs.Span.{span_low, span_high}
use Rattle.theory.specs.Cost.{cost}
use Rattle.theory.specs.Network.{Network, «at», curve}
use Rattle.theory.specs.Totals.{total_cost}
use Rattle.theory.specs.Cut.{leaves, enters, cut_end, cut_sum}
use Rattle.theory.specs.Circuit.{step, span_end, span_sum}
use Rattle.theory.specs.Certificate.{AreNumbers, IsWalkOf}
use Rattle.theory.proofs.Bounds.{nothing_within, within_more, within_sum, negated-within, item_within, cost-within, span_low-within, span_high-within}
use Rattle.theory.proofs.Places.{first_at, last_at}
use Rattle.net_incidence.specs.FlowAlong.{AreSmall}
use Rattle.net_incidence.proofs.SumParts.{span_sum-places}
use Rattle.ground_net.specs.Ground.{IsGrounded}
use Rattle.ground_net.specs.Costs.{cost_most}

sum-within : (most n : ℕ) (f : ℕ → ℤ) → ((k : ℕ) → k < n → IsWithin most (f k)) → IsWithin (n * most) (sum_below n f)
sum-within most zero f each = nothing_within (0 * most)
sum-within most (suc n) f each =
    within_more (n * most + most) (suc n * most) (sum_below (suc n) f) (omega arith)
    (within_sum (n * most) most (sum_below n f) (f n) (sum-within most n f (λ k l. each k (omega arith))) (each n (omega arith)))

few-within : (most n count : ℕ) (f : ℕ → ℤ) → n ≤ count → most * count ≤ sum_most → ((k : ℕ) → k < n → IsWithin most (f k))
    → IsWithin sum_most (sum_below n f)
few-within most n count f few small each =
    let more = mul-le-mul_left most few in
    within_more (n * most) sum_most (sum_below n f) (omega arith) (sum-within most n f each)

-- numbers of a certificate are small enough for tensions
pub small : (count : ℕ) (u : List ℤ) → AreNumbers count u → AreSmall u
small count u numbers = record {
  low = λ i l. let near = (numbers.within i (omega (arith, numbers.one_each))).0 in omega (arith, ints);
  high = λ i l. let near = (numbers.within i (omega (arith, numbers.one_each))).1 in omega (arith, ints);
}

-- ---- ends

end_by : (b : Bool) (d e : Ext) → IsWithin number_most (whole d) → IsWithin number_most (whole e) → IsWithin number_most (whole (if b then d else e))
end_by true d e here there = here
end_by false d e here there = there

first-within : (items : List Ext) → AreWithin number_most items → IsWithin number_most (whole (first items))
first-within items within = rw (← first_at items) (item_within number_most items within 0)

last-within : (items : List Ext) → IsCurveList items → AreWithin number_most items → IsWithin number_most (whole (last items))
last-within items list within =
    rw (← last_at items (length items - 1) (omega (arith, list.odd))) (item_within number_most items within (length items - 1))

module _ (net : Network) (good : IsGrounded net) where
  pub cost-near : (x : List ℤ) → AreNumbers (length net.arcs) x → IsWithin sum_most (total_cost 1 net («at» x))
  cost-near x numbers =
      few-within cost_most (length net.arcs) grounded_arcs_most (λ j. cost 1 (curve net j) («at» x j)) good.few_arcs (omega arith)
      (λ j there.
      let limits = good.curves_within j there in
      within_more (number_most + number_most * (flow_most + flow_most)) cost_most (cost 1 (curve net j) («at» x j)) (omega arith)
      (cost-within number_most number_most flow_most (curve net j).items (curve net j).base («at» x j)
      (good.is_network.curve_lists j there) (omega arith) limits.items limits.base (numbers.within j there)))

  pub capacity-near : (side : List Bool) → IsWithin sum_most (cut_sum net side)
  capacity-near side =
      few-within number_most (length net.arcs) grounded_arcs_most (λ j. whole (cut_end net side j)) good.few_arcs (omega arith)
      (λ j there.
      let items = (curve net j).items in
      let within = (good.curves_within j there).items in
      end_by (leaves net side j) (last items) (if enters net side j then negated (first items) else (At (pos 0)))
      (last-within items (good.is_network.curve_lists j there) within)
      (end_by (enters net side j) (negated (first items)) (At (pos 0))
      (negated-within number_most (first items) (first-within items within)) (nothing_within number_most)))

  pub span-near : (walk : List Step) → IsWalkOf net walk → IsWithin sum_most (span_sum net walk)
  span-near walk steps =
      subst (IsWithin sum_most) (span_sum-places net walk)
      (few-within number_most (length walk) (2 ^ 31) (λ k. whole (span_end net (step walk k))) (omega (arith, steps.short)) (omega arith)
      (λ k there.
      let items = (curve net (step walk k).arc.0).items in
      let within = (good.curves_within (step walk k).arc.0 (steps.there k there)).items in
      end_by (step walk k).forward (span_high items) (negated (span_low items)) (span_high-within number_most items within)
      (negated-within number_most (span_low items) (span_low-within number_most items within))))
