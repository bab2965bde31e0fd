-- What levels keep. Each begins with flows that lack at most 1 on each arc, since they were doubled from within the domains of the level
-- before; so all together they lack at most m, no flow moves by more than that, and it is spent once they are within the
-- domains again. After level 0 they are within the domains of the curves.
use Rattle.std.proofs.Common.{◌≡◌, ℕ, zero, suc, ◌+◌, ◌-◌, ◌<◌, ◌≤◌, ℤ, pos, ◌*ℤ◌, Bool, true, false, ◌==◌, List, length, map, refl, sym, ap, ◌∙◌, ⊎_elim, arith, add-one}
use Rattle.std.proofs.lemmas.Int.{ints}
use Rattle.std.proofs.lemmas.Bool.{cases_lt}
use Rattle.theory.specs.declared.ext.Ext.{Ext}
use Rattle.theory.specs.Sums.{sum_below, counted}
use Rattle.theory.specs.CurveList.{IsCurveList}
use Rattle.theory.specs.Limits.{AreWithin, number_most, level_most}
use Rattle.theory.specs.Network.{«at», tail, head, list_at}
use Rattle.theory.specs.Conserved.{IsConserved}
use Rattle.theory.specs.Cut.{IsNegativeCut}
use Rattle.theory.specs.Feasible.{IsFeasibleFlow}
use Rattle.theory.specs.Certificate.{AreNumbers}
use Rattle.theory.specs.Views.{level_items}
use Rattle.theory.proofs.Counting.{total_below-most}
use Rattle.net_incidence.specs.Graph.{Graph, bare}
use Rattle.net_incidence.specs.WithoutBases.{IsPassable, passable_arcs_most, without_bases}
use Rattle.net_incidence.proofs.WithoutBases.{without_bases-items, without_bases-network}
use Rattle.curve_views.specs.LevelLaws.{LevelCutLaw}
use Rattle.feasible_flow.specs.Violations.{violation, violation_at, total_violation, near_most, movable_most, AreNear}
use Rattle.feasible_flow.specs.UnderWay.{IsUnderWay}
use Rattle.feasible_flow.specs.ByLevels.{levels_of, leveled, flow_limit, IsSettled, WillDo}
use Rattle.feasible_flow.proofs.OneArc.{inside}
use Rattle.feasible_flow.proofs.Lists.{are-curves, levels-at}
use Rattle.feasible_flow.proofs.Doubling.{violation-twice, violation-top, violation-last}
use Rattle.feasible_flow.proofs.ViolationFalls.{flow-within, zero-conserved}

-- ---- ranges

leveled-grows : (m d e : ℕ) → d ≤ e → leveled m d ≤ leveled m e
leveled-grows m d zero l = let none : d ≡ 0 = omega arith in rw none (omega arith)
leveled-grows m d (suc e) l =
    ⊎_elim
    (λ (below : d < suc e). let rest = leveled-grows m d e (omega arith) in omega arith)
    (λ (above : suc e ≤ d). let same : d ≡ suc e = omega arith in rw same (omega arith))
    (cases_lt d (suc e))

leveled-few : (m d : ℕ) → m ≤ passable_arcs_most → d ≤ level_most + 1 → leveled m d ≤ near_most
leveled-few m d few l =
    let grows = leveled-grows m d (level_most + 1) l in
    omega (arith, grows)

-- ---- doubled flows

outflow-twice : (n : ℕ) (pick : ℕ → Bool) (x y : ℕ → ℤ) → ((j : ℕ) → y j ≡ pos 2 *ℤ x j)
    → sum_below n (λ j. counted (pick j) (y j)) ≡ pos 2 *ℤ sum_below n (λ j. counted (pick j) (x j))
outflow-twice zero pick x y twice = refl
outflow-twice (suc n) pick x y twice =
    let before = outflow-twice n pick x y twice in
    let last = counted-twice (pick n) (x n) (y n) (twice n) in
    omega (arith, ints)
  where
    counted-twice : (b : Bool) (a c : ℤ) → c ≡ pos 2 *ℤ a → counted b c ≡ pos 2 *ℤ counted b a
    counted-twice true a c e = e
    counted-twice false a c e = refl

conserved-twice : (g : Graph) (x y : ℕ → ℤ) → ((j : ℕ) → y j ≡ pos 2 *ℤ x j) → IsConserved (bare g) x → IsConserved (bare g) y
conserved-twice g x y twice conserved i l =
    let out = outflow-twice (length g.arcs) (λ j. tail (bare g) j == i) x y twice in
    let enters = outflow-twice (length g.arcs) (λ j. head (bare g) j == i) x y twice in
    out ∙ ap (λ (z : ℤ). pos 2 *ℤ z) (conserved i l) ∙ sym enters

-- ---- curves by level

pub record AreLeveled {A : Type 0} (f : A → List Ext) (g : Graph) (curves : List A) : Type 0 where
  pub are_lists : (j : ℕ) → IsCurveList (list_at (map f curves) j)
  pub within : (j : ℕ) → AreWithin number_most (list_at (map f curves) j)
  pub one_each : length curves ≡ length g.arcs
  pub few : length g.arcs ≤ passable_arcs_most

pub leveled-curves : {A : Type 0} (f : A → List Ext) → ((a : A) → IsCurveList (f a)) → ((a : A) → AreWithin number_most (f a)) → (g : Graph)
    (curves : List A) → IsPassable g (length curves) → AreLeveled f g curves
leveled-curves f are_lists within g curves passable =
    let are = are-curves f are_lists within curves in
    record { are_lists = are.are_lists; within = are.within; one_each = passable.one_curve_each; few = passable.few_arcs }

-- ---- the first level

pub settled-zero : {A : Type 0} (f : A → List Ext) (g : Graph) (curves : List A) (x : List ℤ) → AreLeveled f g curves → length x ≡ length g.arcs
    → ((j : ℕ) → «at» x j ≡ pos 0) → IsSettled g (map f curves) 0 x
settled-zero f g curves x are one_each zeros =
    record {
      one_each = one_each;
      conserved = zero-conserved g («at» x) zeros;
      small = λ j. rw (zeros j) (omega (arith, ints), omega (arith, ints));
      near = λ k e j l.
          let top : k ≡ level_most = omega arith in
          let none = violation-top (list_at (map f curves) j) (are.are_lists j) (are.within j) in
          rw (top, zeros j) (omega (arith, none));
      inside = λ e. absurd (omega arith);
    }

-- ---- one level

-- what the doubled flows lack together
pub lacks-few : {A : Type 0} (f : A → List Ext) (g : Graph) (curves : List A) (k d : ℕ) (x y : List ℤ) → AreLeveled f g curves → k + d ≡ level_most
    → IsSettled g (map f curves) d x → ((j : ℕ) → «at» y j ≡ pos 2 *ℤ «at» x j)
    → total_violation (length g.arcs) (levels_of f k curves) y ≤ length g.arcs
lacks-few f g curves k d x y are level settled twice =
    let all = total_below-most (length g.arcs) 1 (violation_at (levels_of f k curves) y)
    (λ j l. rw (levels-at f k curves j (let n = are.one_each in omega arith), twice j) (settled.near k level j l)) in
    omega (arith, all)

pub way-doubled : {A : Type 0} (f : A → List Ext) (g : Graph) (curves : List A) (k d : ℕ) (x y : List ℤ) → AreLeveled f g curves → k + d ≡ level_most
    → IsSettled g (map f curves) d x → length y ≡ length g.arcs → ((j : ℕ) → «at» y j ≡ pos 2 *ℤ «at» x j)
    → IsUnderWay g (levels_of f k curves) (flow_limit (length g.arcs) k) y
way-doubled f g curves k d x y are level settled one_each twice =
    let few = lacks-few f g curves k d x y are level settled twice in
    let done : level_most - k ≡ d = omega arith in
    rw done
    (record {
      few = leveled-few (length g.arcs) (suc d) are.few (omega arith);
      one_each = one_each;
      conserved = conserved-twice g («at» x) («at» y) twice settled.conserved;
      high = λ j. let small = settled.small j in let e = twice j in omega (arith, ints);
      low = λ j. let small = settled.small j in let e = twice j in omega (arith, ints);
    })

pub settled-more : {A : Type 0} (f : A → List Ext) (g : Graph) (curves : List A) (k d : ℕ) (x : List ℤ) → AreLeveled f g curves → k + d ≡ level_most
    → IsUnderWay g (levels_of f k curves) (flow_limit (length g.arcs) k) x
    → ((j : ℕ) → j < length g.arcs → violation_at (levels_of f k curves) x j ≡ 0) → IsSettled g (map f curves) (d + 1) x
settled-more f g curves k d x are level way none =
    let done : level_most - k ≡ d = omega arith in
    record {
      one_each = way.one_each;
      conserved = way.conserved;
      small = λ j.
          let within = flow-within g (levels_of f k curves) (flow_limit (length g.arcs) k) x way j in
          rw (add-one, ← done) within;
      near = λ i e j l.
          let next : k ≡ i + 1 = omega arith in
          violation-twice i (list_at (map f curves) j) («at» x j) (are.are_lists j) (rw (← next) (here j l));
      inside = λ e j l.
          let last : k ≡ 0 = omega arith in
          violation-last k (list_at (map f curves) j) («at» x j) last (are.are_lists j) (here j l);
    }
  where
    here : (j : ℕ) → j < length g.arcs → violation (level_items k (list_at (map f curves) j)) («at» x j) ≡ 0
    here j l = rw (← levels-at f k curves j (let n = are.one_each in omega arith)) (none j l)

pub settled-near : (g : Graph) (lists : List (List Ext)) (d : ℕ) (x : List ℤ) → length g.arcs ≤ passable_arcs_most → d ≤ level_most + 1
    → IsSettled g lists d x → AreNear movable_most x
settled-near g lists d x few less settled j =
    let most = leveled-few (length g.arcs) d few less in
    let small = settled.small j in
    (omega (arith, ints), omega (arith, ints))

-- ---- the last level

pub settled-feasible : (g : Graph) (lists : List (List Ext)) (x : List ℤ) → IsSettled g lists (level_most + 1) x
    → IsFeasibleFlow 1 (without_bases g lists) x
settled-feasible g lists x settled =
    record {
      one_each = settled.one_each;
      conserved = settled.conserved;
      in_domains = λ j l. rw (without_bases-items g lists j) (inside (list_at lists j) («at» x j) (settled.inside refl j l));
    }

pub settled-numbers : (g : Graph) (lists : List (List Ext)) (x : List ℤ) → length g.arcs ≤ passable_arcs_most
    → IsSettled g lists (level_most + 1) x → AreNumbers (length g.arcs) x
settled-numbers g lists x few settled =
    let most = leveled-few (length g.arcs) (level_most + 1) few (omega arith) in
    record {
      one_each = settled.one_each;
      within = λ k l. let small = settled.small k in (omega (arith, ints, most), omega (arith, ints, most));
    }

-- ---- flows of the room

pub way-begun : {A : Type 0} (f : A → List Ext) (g : Graph) (curves : List A) (x : List ℤ) → AreLeveled f g curves → length x ≡ length g.arcs
    → WillDo g (levels_of f 0 curves) x → IsUnderWay g (levels_of f 0 curves) (flow_limit (length g.arcs) 0) x
way-begun f g curves x are one_each will_do =
    let little = will_do.little in
    record {
      few = leveled-few (length g.arcs) (level_most + 1) are.few (omega arith);
      one_each = one_each;
      conserved = will_do.conserved;
      high = λ j. let near = will_do.near j in omega (arith, ints);
      low = λ j. let near = will_do.near j in omega (arith, ints);
    }

-- ---- cuts

pub cut-of_level : LevelCutLaw → {A : Type 0} (f : A → List Ext) (g : Graph) (curves : List A) (k : ℕ) (side : List Bool) → AreLeveled f g curves
    → length (map f curves) ≡ length g.arcs → IsNegativeCut (without_bases g (levels_of f k curves)) side → IsNegativeCut (without_bases g (map f curves)) side
cut-of_level law f g curves k side are one_each cut =
    law k (without_bases g (map f curves)) (without_bases g (levels_of f k curves)) side
    (without_bases-network g (map f curves) are.are_lists one_each)
    (record {
      nodes = refl;
      arcs = refl;
      curves = λ j l.
          without_bases-items g (levels_of f k curves) j ∙ levels-at f k curves j (let n = are.one_each in omega arith)
          ∙ ap (level_items k) (sym (without_bases-items g (map f curves) j));
    })
    cut
