-- Potentials fall. Let each settled node fall to its level less the bound, which is the target's key; the target stays, and so do
-- nodes that aren't settled. On an arc between two settled nodes the new tension is the difference of the levels; from a settled
-- node to one that was met it is no more than that, since the other key is at least the bound; to an unmet node every tension
-- is on the curve. So each pair stays on its curve, by the steps that were tried. Along a label between settled nodes, or to
-- the target, the tension is now the price.
use Rattle.std.proofs.Common.{◌≡◌, ◌⊎◌, inl, inr, ℕ, ◌<◌, ◌≤◌, ℤ, pos, ◌+ℤ◌, ◌-ℤ◌, neg_ℤ, ◌≤ℤ◌, ◌<ℤ◌, Bool, true, false, IsTrue, List, refl, sym, ap, ◌∙◌, subst, ⊎_elim, arith}
use Rattle.std.proofs.lemmas.Int.{ints, by_lt_z}
use Rattle.std.proofs.Math.Nat.{mul-le-mul_left}
use Rattle.std.proofs.lemmas.Bool.{cases_lt, false≢true}
use Rattle.theory.specs.declared.ext.Ext.{Ext}
use Rattle.theory.specs.Limits.{IsWithin, number_most, arg_most}
use Rattle.theory.specs.OnCurve.{IsOnCurve}
use Rattle.theory.specs.Network.{«at», tail, head, list_at}
use Rattle.theory.specs.Conserved.{tension}
use Rattle.theory.specs.Cut.{holds}
use Rattle.theory.specs.Circuit.{begin_of, end_of}
use Rattle.net_incidence.specs.Graph.{Graph, bare}
use Rattle.net_incidence.specs.Incidence.{over}
use Rattle.painted_search.specs.Room.{Room, count_most}
use Rattle.painted_search.specs.Path.{label_at}
use Rattle.kilter_solver.specs.Ranges.{ungrounded_most}
use Rattle.kilter_solver.specs.Along.{rise, IsPairAlong, moved}
use Rattle.kilter_solver.specs.Excess.{excess}
use Rattle.kilter_solver.specs.Ready.{AreOnCurves, Ready}
use Rattle.kilter_solver.specs.Spread.{key, level, is_near, WayTo, IsFound}
use Rattle.kilter_solver.specs.Routing.{fallen, fallen_at, IsFallenBelow, IsOn, TightTo, IsRoute, IsNotFar, IsMovable, fall_most}
use Rattle.kilter_solver.proofs.Marking.{count-most}
use Rattle.net_incidence.proofs.Graphs.{begin-in_graph, end-in_graph}
use Rattle.kilter_solver.proofs.Spreading.{near-done}

-- ---- one arc

-- a and b are its ends, d says whether an end is settled, N whether it was met
module _ (items : List Ext) (x ua ub ka kb bound : ℤ) (Na Nb : Type 0) where
  abbrev pub TriedForward : Bool → Type 0
  TriedForward d = IsTrue d → (t : ℤ) → (ub -ℤ ua) ≤ℤ t → (Nb → t ≤ℤ ((ub +ℤ kb) -ℤ (ua +ℤ ka))) → IsOnCurve 1 items x t

  abbrev pub TriedBackward : Bool → Type 0
  TriedBackward d = IsTrue d → (t : ℤ) → (ua -ℤ ub) ≤ℤ t → (Na → t ≤ℤ ((ua +ℤ ka) -ℤ (ub +ℤ kb))) → IsOnCurve 1 items x (neg_ℤ t)

  back : (t : ℤ) → IsOnCurve 1 items x (neg_ℤ (neg_ℤ t)) → IsOnCurve 1 items x t
  back t on = let e : neg_ℤ (neg_ℤ t) ≡ t = omega (arith, ints) in subst (λ (z : ℤ). IsOnCurve 1 items x z) e on

  pub fallen_pair : (da db : Bool) → (IsTrue da → ka ≤ℤ bound) → (IsTrue db → kb ≤ℤ bound)
      → (Na → da ≡ false → bound ≤ℤ ka) → (Nb → db ≡ false → bound ≤ℤ kb)
      → TriedForward da → TriedBackward db → IsOnCurve 1 items x (ub -ℤ ua)
      → IsOnCurve 1 items x (fallen db ub kb bound -ℤ fallen da ua ka bound)
  fallen_pair false false low_a low_b high_a high_b forward backward on = on
  fallen_pair true false low_a low_b high_a high_b forward backward on =
      let low = low_a refl in
      forward refl (ub -ℤ ((ua +ℤ ka) -ℤ bound)) (omega (arith, ints)) (λ near. let high = high_b near refl in omega (arith, ints))
  fallen_pair false true low_a low_b high_a high_b forward backward on =
      let low = low_b refl in
      let t = ((ub +ℤ kb) -ℤ bound) -ℤ ua in
      back t (backward refl (neg_ℤ t) (omega (arith, ints)) (λ near. let high = high_a near refl in omega (arith, ints)))
  fallen_pair true true low_a low_b high_a high_b forward backward on =
      let t = ((ub +ℤ kb) -ℤ bound) -ℤ ((ua +ℤ ka) -ℤ bound) in
      by_lt_z (ub -ℤ ua) t
      (λ above. forward refl t (omega (arith, ints)) (λ near. omega (arith, ints)))
      (λ under. back t (backward refl (neg_ℤ t) (omega (arith, ints)) (λ near. omega (arith, ints))))

-- ---- all arcs

module _ (g : Graph) (lists : List (List Ext)) (source target : ℕ) (v w : Room) (found : IsFound g lists source v target)
    (on_curves : AreOnCurves g lists v.flows v.potentials) (nodes : v.nodes ≡ g.nodes) (fall : IsFallenBelow v.nodes (key v target) v w) where
  abbrev bound : ℤ
  bound = key v target

  low : (i : ℕ) → IsTrue (holds v.reached i) → key v i ≤ℤ bound
  low i done =
      let under = found.spread.lower i done in
      let over_bound = found.spread.upper target found.nearest.near found.nearest.waits in
      omega (arith, ints)

  fell : (i : ℕ) → i < g.nodes → «at» w.potentials i ≡ fallen_at v bound i
  fell i l = fall.fell i (omega (arith, nodes))

  pub fallen-on_curves : AreOnCurves g lists w.flows w.potentials
  fallen-on_curves = record {
    pairs = λ j l.
        let a = tail (bare g) j in
        let b = head (bare g) j in
        let a_there = g.good.tails j l in
        let b_there = g.good.heads j l in
        let there_a : begin_of (bare g) (over j true) < g.nodes = a_there in
        let here = fallen_pair (list_at lists j) («at» v.flows j) («at» v.potentials a) («at» v.potentials b) (key v a) (key v b) bound
        (IsTrue (is_near v a)) (IsTrue (is_near v b)) (holds v.reached a) (holds v.reached b)
        (low a) (low b) (λ near waits. found.nearest.least a near waits) (λ near waits. found.nearest.least b near waits)
        (λ done t least most. (found.spread.tried (over j true) l done (λ e. omega arith)).pairs t least most)
        (λ done t least most. (found.spread.tried (over j false) l done (λ e. omega arith)).pairs t least most)
        (on_curves.pairs j l) in
        let tension_is : fallen_at v bound b -ℤ fallen_at v bound a ≡ tension (bare g) («at» w.potentials) j =
        (let ea = fell a a_there in let eb = fell b b_there in omega (arith, ints)) in
        subst (λ (x : List ℤ). IsOnCurve 1 (list_at lists j) («at» x j) (tension (bare g) («at» w.potentials) j)) (sym fall.same.flows)
        (subst (λ (t : ℤ). IsOnCurve 1 (list_at lists j) («at» v.flows j) t) tension_is here);
  }

  on-before : (i : ℕ) → IsOn w target i → IsOn v target i
  on-before i (inl done) = inl (subst (λ (side : List Bool). IsTrue (holds side i)) fall.same.reached done)
  on-before i (inr same) = inr same

  on-near : (i : ℕ) → IsOn v target i → IsTrue (is_near v i)
  on-near i (inl done) = near-done v i done
  on-near i (inr same) = subst (λ (k : ℕ). IsTrue (is_near v k)) (sym same) found.nearest.near

  fallen-at : (i : ℕ) (d : Bool) → fallen d («at» v.potentials i) (key v i) bound ≡ fallen_at v bound i → d ≡ holds v.reached i
      → IsOn v target i → fallen d («at» v.potentials i) (key v i) bound ≡ level v i -ℤ bound
  fallen-at i true e is on = refl
  fallen-at i false e is (inl done) = absurd (false≢true (is ∙ done))
  fallen-at i false e is (inr same) = let k : key v i ≡ bound = ap (key v) same in omega (arith, ints)

  -- the potential of each node of the route is its level less the bound
  fallen-level : (i : ℕ) → i < g.nodes → IsOn v target i → «at» w.potentials i ≡ level v i -ℤ bound
  fallen-level i l on = fell i l ∙ fallen-at i (holds v.reached i) refl refl on

  pub fallen-route : IsRoute g lists source target w
  fallen-route = record {
    rank = found.spread.rank;
    short = λ i on.
        let deep = found.spread.near_rank i (on-near i (on-before i on)) in
        let most = count-most g.nodes v.reached in
        omega arith;
    ways = λ i on other. tight i (on-before i on) (found.spread.ways i (on-near i (on-before i on)) other);
  }
    where
      tight : (i : ℕ) → IsOn v target i → WayTo g lists v found.spread.rank i → TightTo g lists w found.spread.rank i
      tight i on way =
          let s = way.last in
          let a = begin_of (bare g) s in
          let i_there : i < g.nodes = subst (λ (k : ℕ). k < g.nodes) way.is.ends (end-in_graph g s way.is.there) in
          let end_is : «at» w.potentials (end_of (bare g) s) ≡ level v i -ℤ bound = ap («at» w.potentials) way.is.ends ∙ fallen-level i i_there on in
          let begin_is = fallen-level a (begin-in_graph g s way.is.there) (inl way.is.done) in
          let gain : level v i -ℤ level v a ≡ rise (bare g) («at» w.potentials) s = omega (arith, ints) in
          record {
            last = s;
            is = record {
              label = ap (λ labels. label_at labels i) fall.same.labels ∙ way.is.label;
              there = way.is.there;
              ends = way.is.ends;
              done = subst (λ (side : List Bool). IsTrue (holds side a)) (sym fall.same.reached) way.is.done;
              deeper = way.is.deeper;
              next = subst (λ (x : List ℤ). IsPairAlong (list_at lists s.arc.0) s.forward (moved s.forward («at» x s.arc.0)) (rise (bare g) («at» w.potentials) s))
                  (sym fall.same.flows)
                  (subst (λ (t : ℤ). IsPairAlong (list_at lists s.arc.0) s.forward (moved s.forward («at» v.flows s.arc.0)) t) gain way.is.next);
            };
          }

  -- ---- how far

  falls-for : (i : ℕ) (d : Bool) → (IsTrue d → key v i ≤ℤ bound) → fallen d («at» v.potentials i) (key v i) bound ≤ℤ «at» v.potentials i
  falls-for i true under = let h = under refl in omega (arith, ints)
  falls-for i false under = omega (arith, ints)

  pub fallen-falls : (i : ℕ) → «at» w.potentials i ≤ℤ «at» v.potentials i
  fallen-falls i =
      ⊎_elim
      (λ (below : i < v.nodes). let e = fall.fell i below in let h = falls-for i (holds v.reached i) (low i) in omega (arith, ints))
      (λ (above : v.nodes ≤ i). let e = fall.stays i above in omega (arith, ints))
      (cases_lt i v.nodes)

  -- what a settled node falls to is near the target's potential: both levels are near that of the source
  far-for : (i : ℕ) (d : Bool) → d ≡ holds v.reached i → fallen d («at» v.potentials i) (key v i) bound ≡ «at» w.potentials i → IsNotFar g v w i
  far-for i false e is = record { far = inl (sym is) }
  far-for i true e is =
      let near_i = near-done v i (sym e) in
      let here = found.spread.ranged i near_i in
      let there = found.spread.ranged target found.nearest.near in
      let low_here = here.0 in
      let high_there = there.1 in
      let deep_here = found.spread.near_rank i near_i in
      let deep_there = found.spread.near_rank target found.nearest.near in
      let most = count-most g.nodes v.reached in
      let here_most : found.spread.rank i ≤ g.nodes = omega arith in
      let there_most : found.spread.rank target ≤ g.nodes = omega arith in
      let size_here = mul-le-mul_left number_most here_most in
      let size_there = mul-le-mul_left number_most there_most in
      record { far = inr (target, (omega (arith, nodes, found.nearest.there)), found.lacks, (omega (arith, ints))) }

  pub fallen-far : (i : ℕ) → IsNotFar g v w i
  fallen-far i =
      ⊎_elim
      (λ (below : i < v.nodes). far-for i (holds v.reached i) refl (sym (fall.fell i below)))
      (λ (above : v.nodes ≤ i). record { far = inl (fall.stays i above) })
      (cases_lt i v.nodes)

  -- nodes that lack something stay where they are
  pub fallen-lacking : (i : ℕ) → excess v i <ℤ pos 0 → «at» w.potentials i ≡ «at» v.potentials i
  fallen-lacking i lacks =
      ⊎_elim
      (λ (below : i < v.nodes). fall.fell i below ∙ waits (holds v.reached i) refl)
      (λ (above : v.nodes ≤ i). fall.stays i above)
      (cases_lt i v.nodes)
    where
      waits : (d : Bool) → d ≡ holds v.reached i → fallen d («at» v.potentials i) (key v i) bound ≡ «at» v.potentials i
      waits false e = refl
      waits true e = let h = found.none_lacks i (sym e) in absurd (omega (arith, ints))

  -- potentials that have fallen leave room
  pub fallen-movable : Ready g lists v → g.nodes ≤ count_most → IsMovable g lists w
  fallen-movable ready few = record {
    same_nodes = fall.same.nodes ∙ nodes;
    same_arcs = fall.same.arcs ∙ ready.same_arcs;
    one_list_each = ready.one_list_each;
    on_curves = fallen-on_curves;
    flows = λ j. subst (λ (x : List ℤ). IsWithin arg_most («at» x j)) (sym fall.same.flows) (ready.flows j);
    potentials = λ i. (
        let high = (ready.potentials i).1 in
        let falls = fallen-falls i in
        let low = low_for i (fallen-far i).far in
        (omega (arith, ints), omega (arith, ints)));
  }
    where
      low_for : (i : ℕ) → («at» w.potentials i ≡ «at» v.potentials i)
          ⊎ ((t : ℕ) × (t < g.nodes) × (excess v t <ℤ pos 0) × («at» v.potentials t ≤ℤ («at» w.potentials i +ℤ pos (fall_most g))))
          → neg_ℤ (pos ungrounded_most) ≤ℤ «at» w.potentials i
      low_for i (inl same) = let low = (ready.potentials i).0 in omega (arith, ints)
      low_for i (inr (t, l, h, near)) = let low = (ready.potentials t).0 in omega (arith, ints)
