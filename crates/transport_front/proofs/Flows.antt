-- Feasible flows of the compiled network are plans of the table, and plans are feasible flows, at the same cost. At a place, what leaves it on
-- lanes is the flow of its ground arc and what comes to it. No lane enters a plant, so the flow of its ground arc is its total; none leaves
-- a shop, so the flow of its ground arc is the demand with its sign changed. At the ground a flow is conserved since it is everywhere else.
use Rattle.std.proofs.Common.{◌≡◌, ℕ, zero, suc, ◌+◌, ◌-◌, ◌<◌, ◌==◌, ℤ, pos, ◌+ℤ◌, ◌-ℤ◌, ◌≤ℤ◌, true, false, List, [], ◌++◌, length, drop, refl, sym, ap, subst, ◌∙◌, length-append, length-drop, arith}
use Rattle.std.proofs.lemmas.Int.{ints}
use Rattle.std.proofs.lemmas.List.{get_or-drop, get_or_append_left, get_or-append-add}
use Rattle.theory.specs.CurveList.{Listing}
use Rattle.theory.specs.Network.{«at», tail, head, curve}
use Rattle.theory.specs.Conserved.{IsConserved, outflow, inflow, divergence}
use Rattle.theory.specs.Domain.{InDomain}
use Rattle.theory.specs.Feasible.{IsFeasibleFlow}
use Rattle.theory.specs.Cost.{cost}
use Rattle.theory.specs.Totals.{total_cost}
use Rattle.theory.specs.Sums.{sum_below, counted}
use Rattle.theory.proofs.SumsBelow.{sum_below-same, sum_below-zero, sum_below-front, sum_below-pick}
use Rattle.theory.proofs.SumLaw.{divergence-total}
use Rattle.transport_front.specs.Table.{Kind, Table, IsTable, is_plant, is_shop, kind_at, lane_at, priced, supply_items}
use Rattle.transport_front.specs.Plan.{taken, brought, price, place_cost, plan_cost, IsPlan}
use Rattle.transport_front.proofs.Prices.{price_is_cost, place_costs, lane_domain, some_there, most_there, is_served, place_domain}
use Rattle.transport_front.proofs.Lists.{values, length-values, at-values, sum_not_below, counted-apart, counted-never, counted-some, same-next, same-next-back, same-is}
use Rattle.transport_front.proofs.Compiled.{network, arc_count, node_count, place_tail, place_head, place_curve, lane_tail, lane_head, lane_curve, arcs_parts, by_arc, plant_no_shop, is_network}

-- amounts of lanes as flows of their arcs
abbrev pub Agree : Table → (ℕ → ℤ) → List ℤ → Type 0
Agree t x z = (k : ℕ) → k < length t.lanes → x (length t.places + k) ≡ «at» z k

module _ (t : Table) where
  pub out_is : (x : ℕ → ℤ) (z : List ℤ) → Agree t x z → (i : ℕ) → outflow (network t) x (i + 1) ≡ taken t z i
  out_is x z agree i =
      let parts = arcs_parts t (λ j. counted (tail (network t) j == i + 1) (x j)) in
      let front = sum_below-zero (length t.places) (λ j. counted (tail (network t) j == i + 1) (x j))
      (λ k there. ap (λ n. counted (n == i + 1) (x k)) (place_tail t k there) ∙ counted-apart 0 (i + 1) (x k) (λ e. omega arith)) in
      let back = sum_below-same (length t.lanes)
      (λ k. counted (tail (network t) (length t.places + k) == i + 1) (x (length t.places + k)))
      (λ k. counted ((lane_at t k).from == i) («at» z k))
      (λ k there. ap (λ n. counted (n == i + 1) (x (length t.places + k))) (lane_tail t k there)
      ∙ ap (λ b. counted b (x (length t.places + k))) (same-next (lane_at t k).from i)
      ∙ ap (counted ((lane_at t k).from == i)) (agree k there)) in
      omega (arith, ints)

  pub in_is : (x : ℕ → ℤ) (z : List ℤ) → Agree t x z → (i : ℕ) → i < length t.places → inflow (network t) x (i + 1) ≡ x i +ℤ brought t z i
  in_is x z agree i here =
      let parts = arcs_parts t (λ j. counted (head (network t) j == i + 1) (x j)) in
      let front = sum_below-same (length t.places) (λ j. counted (head (network t) j == i + 1) (x j)) (λ k. counted (i == k) (x k))
      (λ k there. ap (λ n. counted (n == i + 1) (x k)) (place_head t k there) ∙ ap (λ b. counted b (x k)) (same-next-back k i)) in
      let pick = sum_below-pick (length t.places) i x here in
      let back = sum_below-same (length t.lanes)
      (λ k. counted (head (network t) (length t.places + k) == i + 1) (x (length t.places + k)))
      (λ k. counted ((lane_at t k).to == i) («at» z k))
      (λ k there. ap (λ n. counted (n == i + 1) (x (length t.places + k))) (lane_head t k there)
      ∙ ap (λ b. counted b (x (length t.places + k))) (same-next (lane_at t k).to i)
      ∙ ap (counted ((lane_at t k).to == i)) (agree k there)) in
      omega (arith, ints)

  -- ---- lanes leave plants and enter shops

  pub no_in : (kept : IsTable t) (z : List ℤ) (i : ℕ) → is_plant (kind_at t i) ≡ true → brought t z i ≡ pos 0
  no_in kept z i is = sum_below-zero (length t.lanes) (λ k. counted ((lane_at t k).to == i) («at» z k))
      (λ k there. counted-never ((lane_at t k).to == i) («at» z k)
      (λ same. plant_no_shop (kind_at t i) is (subst (λ n. is_shop (kind_at t n) ≡ true) (same-is (lane_at t k).to i same) (kept.joined k (record { name = []; from = 0; to = 0; pairs = [] }) there).to_shop)))

  pub no_out : (kept : IsTable t) (z : List ℤ) (i : ℕ) → is_shop (kind_at t i) ≡ true → taken t z i ≡ pos 0
  no_out kept z i is = sum_below-zero (length t.lanes) (λ k. counted ((lane_at t k).from == i) («at» z k))
      (λ k there. counted-never ((lane_at t k).from == i) («at» z k)
      (λ same. plant_no_shop (kind_at t i) (subst (λ n. is_plant (kind_at t n) ≡ true) (same-is (lane_at t k).from i same) (kept.joined k (record { name = []; from = 0; to = 0; pairs = [] }) there).from_plant) is))

  -- ---- a flow is a plan

  balance : (x : ℕ → ℤ) (z : List ℤ) → Agree t x z → IsConserved (network t) x → (i : ℕ) → i < length t.places → x i ≡ taken t z i -ℤ brought t z i
  balance x z agree conserved i here =
      let out = out_is x z agree i in
      let into = in_is x z agree i here in
      let same = conserved (i + 1) (omega (arith, node_count t)) in
      omega (arith, ints)

  agree-drop : (x : List ℤ) → Agree t («at» x) (drop (length t.places) x)
  agree-drop x k there = sym (get_or-drop (length t.places) x k (pos 0))

  pub flow_totals : (kept : IsTable t) (q : ℕ) (x : List ℤ) → IsFeasibleFlow q (network t) x → (i : ℕ) → i < length t.places → is_plant (kind_at t i) ≡ true
      → «at» x i ≡ taken t (drop (length t.places) x) i
  flow_totals kept q x flow i there is =
      let is_balance = balance («at» x) (drop (length t.places) x) (agree-drop x) flow.conserved i there in
      let none = no_in kept (drop (length t.places) x) i is in
      omega (arith, ints)

  pub flow_is_plan : (kept : IsTable t) (q : ℕ) (x : List ℤ) → IsFeasibleFlow q (network t) x → IsPlan q t (drop (length t.places) x)
  flow_is_plan kept q x flow =
      let z = drop (length t.places) x in
      let within : (k : ℕ) → k < length t.lanes → InDomain q (priced (lane_at t k).pairs) («at» z k) = λ k there.
      subst (InDomain q (priced (lane_at t k).pairs)) (agree-drop x k there)
      (subst (λ (c : Listing). InDomain q c.items («at» x (length t.places + k))) (lane_curve t k there)
      (flow.in_domains (length t.places + k) (omega (arith, arc_count t)))) in
      record {
        one_each = length-drop (length t.places) x ∙ omega (arith, flow.one_each, arc_count t);
        some = λ k there. some_there q (lane_at t k).pairs («at» z k) (within k there);
        most = λ k there. most_there q (lane_at t k).pairs («at» z k) (within k there);
        served = λ i there. is_served q (kind_at t i) («at» x i) (taken t z i) (brought t z i)
            (balance («at» x) z (agree-drop x) flow.conserved i there) (no_in kept z i) (no_out kept z i)
            (subst (λ (c : Listing). InDomain q c.items («at» x i)) (place_curve t i there) (flow.in_domains i (omega (arith, arc_count t))));
      }

  -- ---- a plan is a flow

  pub flow_of : List ℤ → List ℤ
  flow_of z = values (length t.places) (λ i. taken t z i -ℤ brought t z i) ++ z

  pub at_place : (z : List ℤ) (i : ℕ) → i < length t.places → «at» (flow_of z) i ≡ taken t z i -ℤ brought t z i
  unfolding flow_of
  at_place z i there =
      let f : ℕ → ℤ = λ i. taken t z i -ℤ brought t z i in
      get_or_append_left (values (length t.places) f) z (pos 0) i (omega (arith, length-values (length t.places) f)) ∙ at-values (length t.places) f i there

  pub at_lane : (z : List ℤ) → Agree t («at» (flow_of z)) z
  unfolding flow_of
  at_lane z k there =
      let f : ℕ → ℤ = λ i. taken t z i -ℤ brought t z i in
      ap (λ n. «at» (values (length t.places) f ++ z) (n + k)) (sym (length-values (length t.places) f))
      ∙ get_or-append-add (values (length t.places) f) z k (pos 0)

  length-flow_of : (z : List ℤ) → length (flow_of z) ≡ length t.places + length z
  unfolding flow_of
  length-flow_of z =
      let f : ℕ → ℤ = λ i. taken t z i -ℤ brought t z i in
      length-append (values (length t.places) f) z ∙ ap (λ n. n + length z) (length-values (length t.places) f)

  at_places : (z : List ℤ) (i : ℕ) → i < length t.places → outflow (network t) («at» (flow_of z)) (suc i) ≡ inflow (network t) («at» (flow_of z)) (suc i)
  at_places z i there =
      let x = «at» (flow_of z) in
      let next : i + 1 ≡ suc i = omega arith in
      let out = out_is x z (at_lane z) i in
      let into = in_is x z (at_lane z) i there in
      let is = at_place z i there in
      let same : outflow (network t) x (i + 1) ≡ inflow (network t) x (i + 1) = omega (arith, ints) in
      subst (λ n. outflow (network t) x n ≡ inflow (network t) x n) next same

  at_ground : (kept : IsTable t) (z : List ℤ) → outflow (network t) («at» (flow_of z)) 0 ≡ inflow (network t) («at» (flow_of z)) 0
  at_ground kept z =
      let x = «at» (flow_of z) in
      let all = divergence-total (network t) x (is_network t kept) in
      let next : (network t).nodes ≡ suc (length t.places) = node_count t ∙ omega arith in
      let sum : sum_below (suc (length t.places)) (divergence (network t) x) ≡ pos 0 = subst (λ n. sum_below n (divergence (network t) x) ≡ pos 0) next all in
      let front = sum_below-front (length t.places) (divergence (network t) x) in
      let none = sum_below-zero (length t.places) (λ k. divergence (network t) x (suc k)) (λ k there. let e = at_places z k there in omega (arith, ints)) in
      omega (arith, ints)

  conserved_of : (kept : IsTable t) (z : List ℤ) (i : ℕ) → i < (network t).nodes → outflow (network t) («at» (flow_of z)) i ≡ inflow (network t) («at» (flow_of z)) i
  conserved_of kept z zero there = at_ground kept z
  conserved_of kept z (suc i) there = at_places z i (omega (arith, node_count t))

  pub plan_is_flow : (kept : IsTable t) (q : ℕ) (z : List ℤ) → IsPlan q t z → IsFeasibleFlow q (network t) (flow_of z)
  plan_is_flow kept q z plan =
      record {
        one_each = length-flow_of z ∙ omega (arith, plan.one_each, arc_count t);
        conserved = conserved_of kept z;
        in_domains = by_arc t (λ j. InDomain q (curve (network t) j).items («at» (flow_of z) j))
            (λ i there. subst (λ (c : Listing). InDomain q c.items («at» (flow_of z) i)) (sym (place_curve t i there))
            (place_domain q (kind_at t i) («at» (flow_of z) i) (taken t z i) (brought t z i) (at_place z i there) (no_in kept z i) (no_out kept z i)
            (sum_not_below (length t.lanes) (λ k. counted ((lane_at t k).from == i) («at» z k)) (λ k l. counted-some ((lane_at t k).from == i) («at» z k) (plan.some k l)))
            (plan.served i there)))
            (λ k there. subst (λ (c : Listing). InDomain q c.items («at» (flow_of z) (length t.places + k))) (sym (lane_curve t k there))
            (subst (InDomain q (priced (lane_at t k).pairs)) (sym (at_lane z k there))
            (lane_domain q (lane_at t k).pairs («at» z k) (plan.some k there) (plan.most k there))));
      }

  pub plan_totals : (kept : IsTable t) (z : List ℤ) (i : ℕ) → i < length t.places → is_plant (kind_at t i) ≡ true → «at» (flow_of z) i ≡ taken t z i
  plan_totals kept z i there is = let e = at_place z i there in let none = no_in kept z i is in omega (arith, ints)

  -- ---- the same cost

  pub same_cost : (q : ℕ) (x : ℕ → ℤ) (z : List ℤ) → Agree t x z → ((i : ℕ) → i < length t.places → is_plant (kind_at t i) ≡ true → x i ≡ taken t z i)
      → total_cost q (network t) x ≡ plan_cost q t z
  same_cost q x z agree totals =
      let parts = arcs_parts t (λ j. cost q (curve (network t) j) (x j)) in
      let front = sum_below-same (length t.places) (λ j. cost q (curve (network t) j) (x j)) (λ i. place_cost q (kind_at t i) (taken t z i))
      (λ i there. ap (λ c. cost q c (x i)) (place_curve t i there) ∙ place_costs q (kind_at t i) (x i) (taken t z i) (totals i there)) in
      let back = sum_below-same (length t.lanes)
      (λ k. cost q (curve (network t) (length t.places + k)) (x (length t.places + k)))
      (λ k. price q (lane_at t k).pairs («at» z k))
      (λ k there. ap (λ c. cost q c (x (length t.places + k))) (lane_curve t k there) ∙ price_is_cost q (lane_at t k).pairs (x (length t.places + k))
      ∙ ap (price q (lane_at t k).pairs) (agree k there)) in
      omega (arith, ints)

  pub drop_cost : (kept : IsTable t) (q : ℕ) (x : List ℤ) → IsFeasibleFlow q (network t) x → total_cost q (network t) («at» x) ≡ plan_cost q t (drop (length t.places) x)
  drop_cost kept q x flow = same_cost q («at» x) (drop (length t.places) x) (agree-drop x) (flow_totals kept q x flow)

  pub plan_cost_is : (kept : IsTable t) (q : ℕ) (z : List ℤ) → total_cost q (network t) («at» (flow_of z)) ≡ plan_cost q t z
  plan_cost_is kept q z = same_cost q («at» (flow_of z)) z (at_lane z) (plan_totals kept z)
