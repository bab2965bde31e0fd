-- Balancing level by level. At the top level flow 0 is at most 1 from every curve, since all points there are -1, 0 or 1; and a flow
-- that is on the curve of a level is, doubled, at most 1 from the curve of the next. So clamping moves each flow by 1 at most, and the
-- surpluses together are at most one unit for each arc, at every level; they bound the searches, and with them the flows. Potentials
-- fall below that of a node that lacks something by twice the limit for each node at most, and never rise. A cut that is negative at
-- a level is negative on the curves.
use Rattle.std.proofs.Common.{◌≡◌, ◌⊎◌, inl, inr, ℕ, zero, suc, ◌+◌, ◌*◌, ◌^◌, ◌<◌, ◌≤◌, ◌==◌, ℤ, pos, ◌+ℤ◌, ◌-ℤ◌, ◌*ℤ◌, neg_ℤ, ◌≤ℤ◌, ◌<ℤ◌, Bool, List, [], ◌∷◌, length, map, refl, sym, ap, ◌∙◌, subst, ⊎_elim, arith}
use Rattle.std.specs.Prelude.{unsigned_abs}
use Rattle.std.specs.List.{All}
use Rattle.std.proofs.lemmas.Int.{ints}
use Rattle.std.proofs.lemmas.Bool.{cases_lt}
use Rattle.std.proofs.lemmas.List.{get_or_past}
use Rattle.std.proofs.lemmas.List.Elements.{All-head, All-tail}
use Rattle.std.proofs.Math.Nat.{mul-le-mul_left}
use Rattle.std.proofs.Math.Pow.{pow_mono}
use Rattle.theory.specs.declared.ext.Ext.{Ext}
use Rattle.theory.specs.Sums.{counted, positive_part}
use Rattle.theory.specs.CurveList.{IsCurveList}
use Rattle.theory.specs.Limits.{IsWithin, AreWithin, number_most, flow_most, level_most, grounded_nodes_most}
use Rattle.theory.specs.Span.{InSpan}
use Rattle.theory.specs.OnCurve.{IsOnCurve}
use Rattle.theory.specs.Views.{level_items}
use Rattle.theory.specs.Network.{«at», tail, head, list_at}
use Rattle.theory.specs.Conserved.{divergence, tension, IsConserved}
use Rattle.theory.specs.Cut.{IsNegativeCut}
use Rattle.theory.specs.Feasible.{IsFeasiblePotential}
use Rattle.theory.specs.ReadingBound.{reading_unit}
use Rattle.theory.specs.Certificate.{IsOptimalPair, IsPotentialOf, AreNumbers}
use Rattle.theory.proofs.Bounds.{abs_within}
use Rattle.theory.proofs.Level.{level-zero}
use Rattle.theory.proofs.SumsBelow.{sum_below-zero, sum_below-same, sum_below-add, counted-zero, counted-add}
use Rattle.theory.proofs.Counting.{total_below-order, total_below-zero, total_below-most}
use Rattle.net_incidence.specs.Graph.{Graph, bare}
use Rattle.net_incidence.specs.WithoutBases.{without_bases, passable_arcs_most, IsPassable}
use Rattle.net_incidence.proofs.WithoutBases.{without_bases-items, without_bases-network}
use Rattle.painted_search.specs.Room.{Room}
use Rattle.painted_search.specs.Fits.{Fits}
use Rattle.curve_views.specs.Levels.{HasFlowNear}
use Rattle.curve_views.specs.LevelLaws.{TopLevelLaw, DoubledLaw, LevelCutLaw}
use Rattle.kilter_solver.specs.Ranges.{far_most, ungrounded_most}
use Rattle.kilter_solver.specs.Excess.{excess, surpluses}
use Rattle.kilter_solver.specs.Routing.{IsBalancing, IsSafe, Routes, fall_most}
use Rattle.kilter_solver.specs.Clamping.{IsLoose, IsClampedBelow, IsBegun, IsGroundedBelow, AreNear}
use Rattle.kilter_solver.specs.BundleFacts.{greatest}
use Rattle.kilter_solver.proofs.Bundles.{levels_of-each, length-levels}
use Rattle.kilter_solver.specs.Leveling.{levels_of, IsDoubledBelow, leveled_flow, leveled_depth, IsLeveled, level_share}

-- ---- ranges

pub leveled_flow-zero : (m : ℕ) → leveled_flow m 0 ≡ 0
unfolding leveled_flow
leveled_flow-zero m = refl

leveled_flow-suc : (m d : ℕ) → leveled_flow m (suc d) ≡ 2 * leveled_flow m d + (m + 1)
unfolding leveled_flow
leveled_flow-suc m d = refl

pub leveled_flow-more : (m d : ℕ) → leveled_flow m (d + 1) ≡ 2 * leveled_flow m d + (m + 1)
leveled_flow-more m d = let e : d + 1 ≡ suc d = omega arith in rw e (leveled_flow-suc m d)

leveled_flow-is : (m d : ℕ) → leveled_flow m d + (m + 1) ≡ (m + 1) * 2 ^ d
leveled_flow-is m zero = let e = leveled_flow-zero m in omega arith
leveled_flow-is m (suc d) =
    let e = leveled_flow-suc m d in
    let before = leveled_flow-is m d in
    let power : 2 ^ suc d ≡ 2 * 2 ^ d = omega arith in
    rw power (omega arith)

pub leveled_flow-most : (m d : ℕ) → m ≤ passable_arcs_most → d ≤ level_most + 1 → leveled_flow m d ≤ flow_most
leveled_flow-most m d few deep =
    let is = leveled_flow-is m d in
    let power : 2 ^ d ≤ 2 ^ (level_most + 1) = pow_mono deep in
    let wide : m + 1 ≤ passable_arcs_most + 1 = omega arith in
    let a = mul-le-mul_left (m + 1) power in
    let b = mul-le-mul_left (2 ^ (level_most + 1)) wide in
    omega arith

pub leveled_depth-most : (n d : ℕ) → n ≤ grounded_nodes_most → d ≤ level_most + 1 → leveled_depth n d + n * number_most ≤ flow_most
leveled_depth-most n d few deep =
    let deep' : 2 * d + 1 ≤ 2 * (level_most + 1) + 1 = omega arith in
    let a = mul-le-mul_left (n * number_most) deep' in
    let b = mul-le-mul_left number_most few in
    omega arith

-- ---- before the first level

-- potentials near 0, past the last node too
all-near : (g : Graph) (w : Room) → w.nodes ≡ g.nodes → AreNear g.nodes w.potentials → (i : ℕ) → IsWithin (g.nodes * number_most) («at» w.potentials i)
all-near g w same near i =
    ⊎_elim
    (λ (below : i < g.nodes). near.within i below)
    (λ (above : g.nodes ≤ i).
    let past = get_or_past w.potentials i (pos 0) (omega (arith, w.sized.one_potential_each)) in (omega (arith, ints), omega (arith, ints)))
    (cases_lt i g.nodes)

no_divergence : (g : Graph) (x : ℕ → ℤ) → ((j : ℕ) → x j ≡ pos 0) → (i : ℕ) → divergence (bare g) x i ≡ pos 0
no_divergence g x none i =
    let out = sum_below-zero (length g.arcs) (λ k. counted (tail (bare g) k == i) (x k)) (λ k l. counted-zero (tail (bare g) k == i) (x k) (none k)) in
    let into = sum_below-zero (length g.arcs) (λ k. counted (head (bare g) k == i) (x k)) (λ k l. counted-zero (head (bare g) k == i) (x k) (none k)) in
    omega (arith, ints)

pub leveled-begun : (top_level : TopLevelLaw) (g : Graph) (lists : List (List Ext)) (top : ℕ) → number_most < 2 ^ top
    → ((j : ℕ) → IsCurveList (list_at lists j)) → ((j : ℕ) → AreWithin number_most (list_at lists j))
    → (v w : Room) → Fits g v → IsFeasiblePotential 1 (without_bases g lists) v.potentials → AreNear g.nodes v.potentials → IsBegun v w
    → IsLeveled g lists top 0 w
leveled-begun top_level g lists top large are within v w fits potential near begun =
    let u_near : (i : ℕ) → IsWithin (g.nodes * number_most) («at» w.potentials i) =
    (λ i. subst (λ (u : List ℤ). IsWithin (g.nodes * number_most) («at» u i)) (sym begun.same.potentials) (all-near g v fits.same_nodes near i)) in
    record {
      same_nodes = begun.same.nodes ∙ fits.same_nodes;
      same_arcs = begun.same.arcs ∙ fits.same_arcs;
      none = λ i l. begun.excesses i (omega (arith, fits.same_nodes));
      excesses = record {
        exact = λ i l.
            let e = begun.excesses i (omega (arith, fits.same_nodes)) in
            let d = no_divergence g («at» w.flows) begun.flows i in
            omega (arith, ints);
      };
      flows = λ j. (let e = begun.flows j in (omega (arith, ints), omega (arith, ints)));
      low = λ i. (let low = (u_near i).0 in omega (arith, ints));
      high = λ i. (u_near i).1;
      near = λ k level j l.
          let same : top ≡ k = omega arith in
          let power : number_most < 2 ^ k = subst (λ (n : ℕ). number_most < 2 ^ n) same large in
          let items = list_at lists j in
          let inside = subst (λ (xs : List Ext). InSpan 1 xs (tension (bare g) («at» v.potentials) j)) (without_bases-items g lists j) (potential.in_spans j l) in
          let some = top_level number_most k items (tension (bare g) («at» v.potentials) j) power (are j) (within j) inside in
          let none : pos 0 ≡ pos 2 *ℤ «at» w.flows j = (let e = begun.flows j in omega (arith, ints)) in
          subst (λ (x : ℤ). HasFlowNear 1 (level_items k items) x (tension (bare g) («at» w.potentials) j)) none
          (subst (λ (u : List ℤ). HasFlowNear 1 (level_items k items) (pos 0) (tension (bare g) («at» u) j)) (sym begun.same.potentials) some);
      pairs = λ e. absurd (omega arith);
    }

-- ---- one level

-- x + x
counted-twice : (b : Bool) (x y : ℤ) → y ≡ pos 2 *ℤ x → counted b y ≡ counted b x +ℤ counted b x
counted-twice b x y e = ap (counted b) (let f : y ≡ x +ℤ x = omega (arith, ints) in f) ∙ counted-add b x x

divergence-twice : (g : Graph) (x y : ℕ → ℤ) → ((j : ℕ) → j < length g.arcs → y j ≡ pos 2 *ℤ x j) → (i : ℕ)
    → divergence (bare g) y i ≡ divergence (bare g) x i +ℤ divergence (bare g) x i
divergence-twice g x y twice i =
    let m = length g.arcs in
    let out = λ (k : ℕ). counted (tail (bare g) k == i) (x k) in
    let into = λ (k : ℕ). counted (head (bare g) k == i) (x k) in
    let a = sum_below-same m (λ k. counted (tail (bare g) k == i) (y k)) (λ k. out k +ℤ out k)
    (λ k l. counted-twice (tail (bare g) k == i) (x k) (y k) (twice k l)) in
    let b = sum_below-add m out out in
    let c = sum_below-same m (λ k. counted (head (bare g) k == i) (y k)) (λ k. into k +ℤ into k)
    (λ k l. counted-twice (head (bare g) k == i) (x k) (y k) (twice k l)) in
    let d = sum_below-add m into into in
    omega (arith, ints)

-- a level under way: level k follows d levels, and the flows are doubled already
pub record IsLevelStep (g : Graph) (lists levels : List (List Ext)) (d k : ℕ) (v b : Room) : Type 0 where
  pub level : k + d ≡ level_most
  pub one_list_each : length levels ≡ length g.arcs
  pub at_level : (j : ℕ) → j < length g.arcs → list_at levels j ≡ level_items k (list_at lists j)
  pub few_arcs : length g.arcs ≤ passable_arcs_most
  pub few_nodes : g.nodes ≤ grounded_nodes_most
  pub leveled : IsLeveled g lists level_most d v
  pub doubled : IsDoubledBelow v.arcs v b

pub level-step : {C : Type 0} (items : C → List Ext) (g : Graph) (curves others : List C) (d k : ℕ) (v b : Room) → others ≡ curves → k + d ≡ level_most
    → IsPassable g (length curves) → IsLeveled g (map items curves) level_most d v → IsDoubledBelow v.arcs v b
    → IsLevelStep g (map items curves) (levels_of items k others) d k v b
level-step items g curves others d k v b same level passable leveled doubled = record {
  level = level;
  one_list_each = length-levels items k others ∙ ap length same ∙ passable.one_curve_each;
  at_level = λ j l.
      ap (λ cs. list_at (levels_of items k cs) j) same ∙ levels_of-each items k curves j (omega (arith, passable.one_curve_each));
  few_arcs = passable.few_arcs;
  few_nodes = passable.few_nodes;
  leveled = leveled;
  doubled = doubled;
}

pub leveled-far : (g : Graph) (lists : List (List Ext)) (d : ℕ) (v : Room) → length g.arcs ≤ passable_arcs_most → d ≤ level_most
    → IsLeveled g lists level_most d v → (j : ℕ) → IsWithin far_most («at» v.flows j)
leveled-far g lists d v few deep leveled j =
    let x = leveled.flows j in
    let low = x.0 in
    let high = x.1 in
    let most = leveled_flow-most (length g.arcs) d few (omega arith) in
    (omega (arith, ints), omega (arith, ints))

module _ (g : Graph) (lists levels : List (List Ext)) (d k : ℕ) (v b : Room) (step : IsLevelStep g lists levels d k v b) where
  abbrev top : ℕ
  top = level_most

  leveled : IsLeveled g lists level_most d v
  leveled = step.leveled

  doubled : IsDoubledBelow v.arcs v b
  doubled = step.doubled

  few_flows : leveled_flow (length g.arcs) (d + 1) ≤ flow_most
  few_flows = let level = step.level in leveled_flow-most (length g.arcs) (d + 1) step.few_arcs (omega arith)

  few_depth : leveled_depth g.nodes (d + 1) + g.nodes * number_most ≤ flow_most
  few_depth = let level = step.level in leveled_depth-most g.nodes (d + 1) step.few_nodes (omega arith)

  abbrev most : ℕ
  most = leveled_flow (length g.arcs) d

  grown : leveled_flow (length g.arcs) (d + 1) ≡ 2 * most + (length g.arcs + 1)
  grown = leveled_flow-more (length g.arcs) d

  excess_none : (i : ℕ) → i < g.nodes → excess b i ≡ pos 0
  excess_none i l = ap (λ (xs : List ℤ). «at» xs i) doubled.scratch ∙ leveled.none i l

  potential-at : (i : ℕ) → «at» b.potentials i ≡ «at» v.potentials i
  potential-at i = ap (λ (u : List ℤ). «at» u i) doubled.same.potentials

  doubled_flow : (j : ℕ) → IsWithin (2 * most) («at» b.flows j)
  doubled_flow j =
      let old = leveled.flows j in
      let low = old.0 in
      let high = old.1 in
      ⊎_elim
      (λ (below : j < v.arcs). let e = doubled.twice j below in (omega (arith, ints), omega (arith, ints)))
      (λ (above : v.arcs ≤ j). let e = doubled.stays j above in (omega (arith, ints), omega (arith, ints)))
      (cases_lt j v.arcs)

  near-one : (j : ℕ) → j < length g.arcs → HasFlowNear 1 (list_at levels j) («at» b.flows j) (tension (bare g) («at» b.potentials) j)
  near-one j l =
      let twice : pos 2 *ℤ «at» v.flows j ≡ «at» b.flows j = sym (doubled.twice j (omega (arith, leveled.same_arcs))) in
      subst (λ (u : List ℤ). HasFlowNear 1 (list_at levels j) («at» b.flows j) (tension (bare g) («at» u) j)) (sym doubled.same.potentials)
      (subst (λ (x : ℤ). HasFlowNear 1 (list_at levels j) x (tension (bare g) («at» v.potentials) j)) twice
      (subst (λ (items : List Ext). HasFlowNear 1 items (pos 2 *ℤ «at» v.flows j) (tension (bare g) («at» v.potentials) j)) (sym (step.at_level j l))
      (leveled.near k step.level j l)))

  pub doubled-loose : IsLoose g levels b
  doubled-loose = record {
    same_nodes = doubled.same.nodes ∙ leveled.same_nodes;
    same_arcs = doubled.same.arcs ∙ leveled.same_arcs;
    one_list_each = step.one_list_each;
    excesses = record {
      exact = λ i l.
          let e = excess_none i l in
          let none = leveled.none i l in
          let exact = leveled.excesses.exact i l in
          let twice = divergence-twice g («at» v.flows) («at» b.flows) (λ j h. doubled.twice j (omega (arith, leveled.same_arcs))) i in
          omega (arith, ints);
    };
    small = λ i l. (let e = excess_none i l in (omega (arith, ints), omega (arith, ints)));
    flows = λ j. (
        let x = doubled_flow j in
        let low = x.0 in
        let high = x.1 in
        let more = grown in
        let few_flow = few_flows in
        (omega (arith, ints), omega (arith, ints)));
    potentials = λ i. (
        let e = potential-at i in
        let low = leveled.low i in
        let high = leveled.high i in
        let few = few_depth in
        (omega (arith, ints), omega (arith, ints)));
    near = λ j l.
        let some = near-one j l in
        let low = some.near.0 in
        let high = some.near.1 in
        record { flow = some.flow; pair = some.pair; near = (omega (arith, ints), omega (arith, ints)) };
  }

  -- ---- clamped

  module _ (c : Room) (clamped : IsClampedBelow (length g.arcs) g levels b c) where
    shift_small : (j : ℕ) → j < length g.arcs → IsWithin 1 («at» c.flows j -ℤ «at» b.flows j)
    shift_small j l = let some = near-one j l in (clamped.closest j l).closest 1 some.flow some.pair some.near

    clamped_flow : (j : ℕ) → IsWithin (2 * most + 1) («at» c.flows j)
    clamped_flow j =
        let x = doubled_flow j in
        let low = x.0 in
        let high = x.1 in
        ⊎_elim
        (λ (below : j < length g.arcs).
        let s = shift_small j below in let down = s.0 in let up = s.1 in (omega (arith, ints), omega (arith, ints)))
        (λ (above : length g.arcs ≤ j). let e = clamped.stays j above in (omega (arith, ints), omega (arith, ints)))
        (cases_lt j (length g.arcs))

    clamped-potential : (i : ℕ) → «at» c.potentials i ≡ «at» v.potentials i
    clamped-potential i = ap (λ (u : List ℤ). «at» u i) clamped.same.potentials ∙ potential-at i

    -- the surpluses together
    pub few_surpluses : surpluses g.nodes (excess c) ≤ length g.arcs
    few_surpluses =
        let more = clamped.surplus in
        let none_order = total_below-order g.nodes (λ i. positive_part (excess b i)) (λ i. 0) (λ i l. zero_part i l) in
        let none = total_below-zero g.nodes in
        let moved = total_below-most (length g.arcs) 1 (λ j. unsigned_abs («at» c.flows j -ℤ «at» b.flows j))
        (λ j l. abs_within 1 («at» c.flows j -ℤ «at» b.flows j) (shift_small j l)) in
        omega arith
      where
        zero_part : (i : ℕ) → i < g.nodes → positive_part (excess b i) ≤ 0
        zero_part i l =
            let e : excess b i ≡ pos 0 = excess_none i l in
            let p : positive_part (excess b i) ≡ 0 = ap positive_part e in
            omega arith

    pub clamped-balancing : IsBalancing g levels c
    clamped-balancing = record {
      same_nodes = clamped.same.nodes ∙ doubled.same.nodes ∙ leveled.same_nodes;
      same_arcs = clamped.same.arcs ∙ doubled.same.arcs ∙ leveled.same_arcs;
      one_list_each = step.one_list_each;
      on_curves = record {
        pairs = λ j l.
            subst (λ (u : List ℤ). IsOnCurve 1 (list_at levels j) («at» c.flows j) (tension (bare g) («at» u) j)) (sym clamped.same.potentials)
            (clamped.closest j l).pair;
      };
      excesses = clamped.excesses;
    }

    pub clamped-safe : IsSafe g c
    clamped-safe = record {
      flows = λ j. (
          let x = clamped_flow j in
          let low = x.0 in
          let high = x.1 in
          let more = grown in
          let few_flow = few_flows in
          (omega (arith, ints), omega (arith, ints)));
      potentials = λ i. (
          let e = clamped-potential i in
          let low = leveled.low i in
          let high = leveled.high i in
          let few = few_depth in
          (omega (arith, ints), omega (arith, ints)));
      surplus = (let few = few_surpluses in let arcs = step.few_arcs in omega arith);
    }

    -- ---- routed

    module _ (doubled_law : DoubledLaw) (are : (j : ℕ) → IsCurveList (list_at lists j)) (r : Room) (balancing : IsBalancing g levels r)
        (routes : Routes g c r) (conserved : IsConserved (without_bases g levels) («at» r.flows)) where
      routed_low-for : (i : ℕ) → («at» r.potentials i ≡ «at» c.potentials i)
          ⊎ ((t : ℕ) × (t < g.nodes) × (excess c t <ℤ pos 0) × («at» c.potentials t ≤ℤ («at» r.potentials i +ℤ pos (fall_most g))))
          → neg_ℤ (pos (leveled_depth g.nodes (d + 1))) ≤ℤ «at» r.potentials i
      routed_low-for i (inl same) = let e = clamped-potential i in let low = leveled.low i in omega (arith, ints)
      routed_low-for i (inr (t, l, h, near_t)) = let e = clamped-potential t in let low = leveled.low t in omega (arith, ints)

      level_pair : (j : ℕ) → j < length g.arcs → IsOnCurve 1 (level_items k (list_at lists j)) («at» r.flows j) (tension (bare g) («at» r.potentials) j)
      level_pair j l =
          subst (λ (items : List Ext). IsOnCurve 1 items («at» r.flows j) (tension (bare g) («at» r.potentials) j)) (step.at_level j l) (balancing.on_curves.pairs j l)

      pub routed-leveled : IsLeveled g lists top (d + 1) r
      routed-leveled = record {
        same_nodes = balancing.same_nodes;
        same_arcs = balancing.same_arcs;
        none = λ i l. (let exact = balancing.excesses.exact i l in let same = conserved i l in omega (arith, ints));
        excesses = balancing.excesses;
        flows = λ j. (
            let x = clamped_flow j in
            let low = x.0 in
            let high = x.1 in
            let up_most = routes.moves_up j in
            let down_most = routes.moves_down j in
            let few = few_surpluses in
            let more = grown in
            (omega (arith, ints), omega (arith, ints)));
        low = λ i. routed_low-for i (routes.near i).far;
        high = λ i. (let falls = routes.falls i in let e = clamped-potential i in let high = leveled.high i in omega (arith, ints));
        near = λ n next j l.
            let items = list_at lists j in
            let level = step.level in
            let same : k ≡ n + 1 = omega arith in
            doubled_law n items («at» r.flows j) (tension (bare g) («at» r.potentials) j) (are j)
            (subst (λ (i : ℕ). IsOnCurve 1 (level_items i items) («at» r.flows j) (tension (bare g) («at» r.potentials) j)) same (level_pair j l));
        pairs = λ all. record {
          pairs = λ j l.
              let items = list_at lists j in
              let level = step.level in
              let same : k ≡ 0 = omega arith in
              subst (λ (xs : List Ext). IsOnCurve 1 xs («at» r.flows j) (tension (bare g) («at» r.potentials) j)) (level-zero items (are j))
              (subst (λ (i : ℕ). IsOnCurve 1 (level_items i items) («at» r.flows j) (tension (bare g) («at» r.potentials) j)) same (level_pair j l));
        };
      }

-- a cut that is negative at a level
pub level-cut : LevelCutLaw → (g : Graph) (lists levels : List (List Ext)) (k : ℕ) → ((j : ℕ) → IsCurveList (list_at lists j))
    → length lists ≡ length g.arcs → ((j : ℕ) → j < length g.arcs → list_at levels j ≡ level_items k (list_at lists j))
    → (side : List Bool) → IsNegativeCut (without_bases g levels) side → IsNegativeCut (without_bases g lists) side
level-cut law g lists levels k are one_each at_level side cut =
    law k (without_bases g lists) (without_bases g levels) side (without_bases-network g lists are one_each)
    (record {
      nodes = refl;
      arcs = refl;
      curves = λ j l. without_bases-items g levels j ∙ at_level j l ∙ ap (level_items k) (sym (without_bases-items g lists j));
    })
    cut

-- ---- after the last level

module _ (g : Graph) (lists : List (List Ext)) (d curves : ℕ) (all : d ≡ level_most + 1) (passable : IsPassable g curves) (r : Room)
    (leveled : IsLeveled g lists level_most d r) where
  all_flows : leveled_flow (length g.arcs) d ≤ flow_most
  all_flows = leveled_flow-most (length g.arcs) d passable.few_arcs (omega arith)

  all_depth : leveled_depth g.nodes d + g.nodes * number_most ≤ flow_most
  all_depth = leveled_depth-most g.nodes d passable.few_nodes (omega arith)

  pub leveled-small : (i : ℕ) → IsWithin ungrounded_most («at» r.potentials i)
  leveled-small i = let low = leveled.low i in let high = leveled.high i in let few = all_depth in (omega (arith, ints), omega (arith, ints))

  module _ (w : Room) (grounded : IsGroundedBelow r.nodes («at» r.potentials 0) r w) where
    lost : (i : ℕ) → i < g.nodes → «at» w.potentials i ≡ «at» r.potentials i -ℤ «at» r.potentials 0
    lost i l = grounded.lost i (omega (arith, leveled.same_nodes))

    pub grounded-pair : IsOptimalPair (without_bases g lists) w.flows w.potentials
    grounded-pair = record {
      conserved = λ i l.
          let none = leveled.none i l in
          let exact = leveled.excesses.exact i l in
          let d : divergence (bare g) («at» w.flows) i ≡ divergence (bare g) («at» r.flows) i =
          ap (λ (x : List ℤ). divergence (bare g) («at» x) i) grounded.flows in
          omega (arith, ints);
      on_curves = λ j l.
          let t : tension (bare g) («at» r.potentials) j ≡ tension (bare g) («at» w.potentials) j =
          (let a = lost (tail (bare g) j) (g.good.tails j l) in let b = lost (head (bare g) j) (g.good.heads j l) in omega (arith, ints)) in
          subst (λ (items : List Ext). IsOnCurve 1 items («at» w.flows j) (tension (bare g) («at» w.potentials) j)) (sym (without_bases-items g lists j))
          (subst (λ (x : List ℤ). IsOnCurve 1 (list_at lists j) («at» x j) (tension (bare g) («at» w.potentials) j)) (sym grounded.flows)
          (subst (λ (z : ℤ). IsOnCurve 1 (list_at lists j) («at» r.flows j) z) t ((leveled.pairs all).pairs j l)));
    }

    pub grounded-flows : AreNumbers (length g.arcs) w.flows
    grounded-flows = record {
      one_each = w.sized.one_flow_each ∙ grounded.arcs ∙ leveled.same_arcs;
      within = λ j l.
          subst (λ (x : List ℤ). IsWithin flow_most («at» x j)) (sym grounded.flows)
          (let x = leveled.flows j in let low = x.0 in let high = x.1 in let few = all_flows in (omega (arith, ints), omega (arith, ints)));
    }

    pub grounded-potentials : IsPotentialOf (without_bases g lists) w.potentials
    grounded-potentials = record {
      numbers = record {
        one_each = w.sized.one_potential_each ∙ grounded.nodes ∙ leveled.same_nodes;
        within = λ i l. (
            let e = lost i l in
            let low = leveled.low i in
            let high = leveled.high i in
            let base_low = leveled.low 0 in
            let base_high = leveled.high 0 in
            let few = all_depth in
            (omega (arith, ints), omega (arith, ints)));
      };
      ground = (let some = passable.some_node in let e = lost 0 (omega arith) in omega (arith, ints));
    }

-- ---- readings

-- one level, at weights of at most 3
pub readings-level : (m weight surplus start first last : ℕ) → weight ≤ 3 → surplus ≤ m → first ≤ start + m * weight
    → last ≤ first + m * weight * (3 * surplus + 2) → last ≤ start + level_share m
readings-level m weight surplus start first last light few one all =
    let a = mul-le-mul_left m light in
    let b = mul-le-mul_left (3 * surplus + 2) a in
    let more : 3 * surplus + 2 ≤ 3 * m + 2 = omega arith in
    let c = mul-le-mul_left (m * 3) more in
    omega arith

readings-most : (n m start last : ℕ) → last ≤ start + (level_most + 1) * level_share m → last ≤ start + 3 * reading_unit n m level_most
readings-most n m start last all =
    let some : 3 ≤ n + 3 = omega arith in
    let a = mul-le-mul_left (m * (m + 1)) some in
    omega arith

-- all levels
pub readings-all : (n m d start last : ℕ) → d ≡ level_most + 1 → last ≤ start + d * level_share m → last ≤ start + 3 * reading_unit n m level_most
readings-all n m d start last all spent = readings-most n m start last (rw (← all) spent)

-- some levels and one more
pub readings-some : (n m d start before last : ℕ) → d ≤ level_most → before ≤ start + d * level_share m → last ≤ before + level_share m
    → last ≤ start + 3 * reading_unit n m level_most
readings-some n m d start before last deep first more =
    let some : d + 1 ≤ level_most + 1 = omega arith in
    let a = mul-le-mul_left (level_share m) some in
    readings-most n m start last (omega arith)

pub light-most : {C : Type 0} (weight : C → ℕ) (curves : List C) → All (λ c. weight c ≡ 1) curves → greatest weight curves ≤ 1
light-most weight [] all = omega arith
light-most weight (c ∷ curves) all =
    let here : weight c ≡ 1 = All-head (λ c. weight c ≡ 1) c curves all in
    let rest = light-most weight curves (All-tail (λ c. weight c ≡ 1) c curves all) in
    omega arith
