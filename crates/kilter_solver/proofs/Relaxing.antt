-- Trying a step from the opened node. Its end is settled already, and then no tension above that of the step is within the
-- level's rise; or it can't be passed; or it is offered a key by the price, and keeps the lesser of this and its own. The key
-- offered is no less than that of the opened node, since a price is no less than the tension of a pair.
use Rattle.std.proofs.Common.{◌≡◌, ◌≢◌, ℕ, ◌+◌, ◌*◌, ◌<◌, ◌==◌, ℤ, pos, ◌+ℤ◌, ◌-ℤ◌, ◌≤ℤ◌, Bool, false, ◌||◌, if◌then◌else◌, IsTrue, Option, Some, None, List, length, refl, sym, ap, ◌∙◌, subst, ⊎_elim, eq-eqb, arith}
use Rattle.std.proofs.lemmas.Int.{ints}
use Rattle.std.proofs.lemmas.Bool.{cases_eq, ne_eqb, false≢true}
use Rattle.std.proofs.lemmas.List.{get_or-set_same, get_or-set_other}
use Rattle.theory.specs.declared.ext.Ext.{Ext}
use Rattle.theory.specs.declared.network.Step.{Step}
use Rattle.theory.specs.Limits.{IsWithin, number_most}
use Rattle.theory.specs.Network.{«at», list_at}
use Rattle.theory.specs.Cut.{holds}
use Rattle.theory.specs.Circuit.{begin_of, end_of}
use Rattle.net_incidence.specs.Graph.{Graph, bare}
use Rattle.painted_search.specs.Room.{Room}
use Rattle.painted_search.specs.Path.{label_at}
use Rattle.kilter_solver.specs.Along.{rise, IsPairAlong, moved, IsFinitePrice, IsNoPrice}
use Rattle.kilter_solver.specs.Excess.{excess}
use Rattle.kilter_solver.specs.Ready.{AreOnCurves, Ready}
use Rattle.kilter_solver.specs.Spread.{key, level, is_label, is_near, IsTried, WayTo, Spread, IsLater, relaxed, IsImproved, kept, lowered}
use Rattle.net_incidence.proofs.Graphs.{begin-in_graph, end-in_graph}
use Rattle.kilter_solver.proofs.Spreading.{near-done, near-label, pair_along}
use Rattle.kilter_solver.proofs.Requeued.{later-queue, spread-queue}

-- ---- what was tried stays tried

pub later-same : (w : Room) → IsLater w w
later-same w = record {
  state = record { nodes = refl; arcs = refl; flows = refl; potentials = refl; excesses = λ i l. refl };
  reached = refl;
  nearer = λ i near. near;
  falls = λ i near. omega (arith, ints);
  settled = λ i done. refl;
}

pub later-further : (u v w : Room) → IsLater u v → IsLater v w → IsLater u w
later-further u v w first second = record {
  state = record {
    nodes = second.state.nodes ∙ first.state.nodes;
    arcs = second.state.arcs ∙ first.state.arcs;
    flows = second.state.flows ∙ first.state.flows;
    potentials = second.state.potentials ∙ first.state.potentials;
    excesses = λ i l. second.state.excesses i (omega (arith, first.state.nodes)) ∙ first.state.excesses i l;
  };
  reached = second.reached ∙ first.reached;
  nearer = λ i near. second.nearer i (first.nearer i near);
  falls = λ i near. (
      let one = first.falls i near in
      let other = second.falls i (first.nearer i near) in
      omega (arith, ints));
  settled = λ i done. second.settled i (subst (λ (side : List Bool). IsTrue (holds side i)) (sym first.reached) done) ∙ first.settled i done;
}

pub tried-later : (g : Graph) (lists : List (List Ext)) (v w : Room) (s : Step) → IsLater v w → IsTrue (holds v.reached (begin_of (bare g) s))
    → IsTried g lists v s → IsTried g lists w s
tried-later g lists v w s later done tried =
    let a = begin_of (bare g) s in
    let b = end_of (bare g) s in
    record {
      pairs = λ t least most.
          let here = tried.pairs t (subst (λ (u : List ℤ). rise (bare g) («at» u) s ≤ℤ t) later.state.potentials least)
          (λ near.
          let most' = most (later.nearer b near) in
          let fall = later.falls b near in
          let same = later.settled a done in
          let ua : «at» w.potentials a ≡ «at» v.potentials a = ap (λ (u : List ℤ). «at» u a) later.state.potentials in
          let ub : «at» w.potentials b ≡ «at» v.potentials b = ap (λ (u : List ℤ). «at» u b) later.state.potentials in
          omega (arith, ints)) in
          subst (λ (x : List ℤ). IsPairAlong (list_at lists s.arc.0) s.forward («at» x s.arc.0) t) (sym later.state.flows) here;
    }

-- ---- one node met by a step

module _ (w : Room) (b : ℕ) (s : Step) (z : ℤ) (there : b < w.nodes) where
  relaxed-key : key (relaxed w b s z) b ≡ z
  relaxed-key = get_or-set_same w.scratch (w.nodes + b) z (pos 0) (omega (arith, w.two_words_each))

  relaxed-keys : (k : ℕ) → k ≢ b → key (relaxed w b s z) k ≡ key w k
  relaxed-keys k other = get_or-set_other w.scratch (w.nodes + b) (w.nodes + k) z (pos 0) (λ e. other (omega arith))

  relaxed-excess : (k : ℕ) → k < w.nodes → excess (relaxed w b s z) k ≡ excess w k
  relaxed-excess k l = get_or-set_other w.scratch (w.nodes + b) k z (pos 0) (λ e. omega arith)

  relaxed-label : label_at (relaxed w b s z).labels b ≡ Some s
  relaxed-label = get_or-set_same w.labels b (Some s) None (omega (arith, w.sized.one_label_each))

  relaxed-labels : (k : ℕ) → k ≢ b → label_at (relaxed w b s z).labels k ≡ label_at w.labels k
  relaxed-labels k other = get_or-set_other w.labels b k (Some s) None other

  pub relaxed-near : IsTrue (is_near (relaxed w b s z) b)
  relaxed-near = near-label (relaxed w b s z) b s relaxed-label

  pub relaxed-nears : (k : ℕ) → k ≢ b → is_near (relaxed w b s z) k ≡ is_near w k
  relaxed-nears k other = ap (λ (l : Option Step). holds w.reached k || is_label l) (relaxed-labels k other)

  pub relaxed-later : holds w.reached b ≡ false → (IsTrue (is_near w b) → z ≤ℤ key w b) → IsLater w (relaxed w b s z)
  relaxed-later waits fall = record {
    state = record { nodes = refl; arcs = refl; flows = refl; potentials = refl; excesses = relaxed-excess };
    reached = refl;
    nearer = λ k near. ⊎_elim
        (λ (same : k ≡ b). subst (λ (i : ℕ). IsTrue (is_near (relaxed w b s z) i)) (sym same) relaxed-near)
        (λ (other : k ≡ b → ⊥). relaxed-nears k other ∙ near)
        (cases_eq k b);
    falls = λ k near. ⊎_elim
        (λ (same : k ≡ b).
        let e : key (relaxed w b s z) k ≡ key (relaxed w b s z) b = ap (key (relaxed w b s z)) same in
        let f : key w k ≡ key w b = ap (key w) same in
        let h = fall (subst (λ (i : ℕ). IsTrue (is_near w i)) same near) in
        let is = relaxed-key in
        omega (arith, ints))
        (λ (other : k ≡ b → ⊥). let e = relaxed-keys k other in omega (arith, ints))
        (cases_eq k b);
    settled = λ k done. relaxed-keys k (λ same. false≢true (sym waits ∙ subst (λ (i : ℕ). IsTrue (holds w.reached i)) same done));
  }

-- ---- the search with the node met

module _ (g : Graph) (lists : List (List Ext)) (source : ℕ) (w : Room) (s : Step) (h z : ℤ) where
  abbrev opened : ℕ
  opened = begin_of (bare g) s

  abbrev goal : ℕ
  goal = end_of (bare g) s

  pub spread-relaxed : Spread g lists source opened w → w.nodes ≡ g.nodes → opened < g.nodes → goal < g.nodes → s.arc.0 < length g.arcs
      → AreOnCurves g lists w.flows w.potentials
      → holds w.reached goal ≡ false
      → IsFinitePrice (list_at lists s.arc.0) s.forward («at» w.flows s.arc.0) h
      → z +ℤ «at» w.potentials goal ≡ level w opened +ℤ h
      → (IsTrue (is_near w goal) → z ≤ℤ key w goal)
      → Spread g lists source opened (relaxed w goal s z)
  spread-relaxed spread nodes begin_there end_there arc_there on_curves waits price offer fall =
      let v = relaxed w goal s z in
      let there : goal < w.nodes = omega (arith, nodes) in
      let later = relaxed-later w goal s z there waits fall in
      let pair = pair_along g lists w.flows w.potentials s on_curves arc_there in
      let order = price.most (rise (bare g) («at» w.potentials) s) pair in
      let unsettled : (k : ℕ) → IsTrue (holds w.reached k) → k ≢ goal =
      (λ k done same. false≢true (sym waits ∙ subst (λ (i : ℕ). IsTrue (holds w.reached i)) same done)) in
      let open_key = spread.opened_key begin_there in
      let open_done = spread.opened_done begin_there in
      let is_key = relaxed-key w goal s z there in
      let rank : ℕ → ℕ = λ k. if k == goal then spread.rank opened + 1 else spread.rank k in
      let rank_at : (k : ℕ) → k ≡ goal → rank k ≡ spread.rank opened + 1 = λ k e. (rw (eq-eqb k goal e) refl) in
      let rank_other : (k : ℕ) → k ≢ goal → rank k ≡ spread.rank k = λ k e. (rw (ne_eqb k goal e) refl) in
      let near_other : (k : ℕ) → k ≢ goal → IsTrue (is_near v k) → IsTrue (is_near w k) =
      (λ k other near. sym (relaxed-nears w goal s z there k other) ∙ near) in
      let level_other : (k : ℕ) → k ≢ goal → level v k ≡ level w k =
      (λ k other. ap (λ (d : ℤ). «at» w.potentials k +ℤ d) (relaxed-keys w goal s z there k other)) in
      let level_goal : level v goal ≡ level w opened +ℤ h = (let e = is_key in omega (arith, ints)) in
      let level_open : level v opened ≡ level w opened = level_other opened (unsettled opened open_done) in
      let level_root : level v source ≡ level w source = level_other source (unsettled source spread.root) in
      let open_range = spread.ranged opened (near-done w opened open_done) in
      let small = price.small in
      let gain : level v goal -ℤ level v opened ≡ h = omega (arith, ints) in
      record {
        rank = rank;
        bound = spread.bound;
        root = spread.root;
        root_key = later.settled source spread.root ∙ spread.root_key;
        opened_done = spread.opened_done;
        opened_key = λ l. later.settled opened open_done ∙ open_key;
        lower = λ k done. (let e = later.settled k done in let low = spread.lower k done in omega (arith, ints));
        upper = λ k near out. ⊎_elim
            (λ (same : k ≡ goal).
            let e : key v k ≡ key v goal = ap (key v) same in
            omega (arith, ints))
            (λ (other : k ≡ goal → ⊥).
            let e = relaxed-keys w goal s z there k other in
            let high = spread.upper k (near_other k other near) out in
            omega (arith, ints))
            (cases_eq k goal);
        ways = λ k near other_root. ⊎_elim
            (λ (same : k ≡ goal).
            subst (λ (i : ℕ). WayTo g lists v rank i) (sym same)
            (record {
              last = s;
              is = record {
                label = relaxed-label w goal s z there;
                there = arc_there;
                ends = refl;
                done = open_done;
                deeper = rank_at goal refl ∙ ap (λ n. n + 1) (sym (rank_other opened (unsettled opened open_done)));
                next = subst (λ (t : ℤ). IsPairAlong (list_at lists s.arc.0) s.forward (moved s.forward («at» w.flows s.arc.0)) t) (sym gain)
                    (price.next (rise (bare g) («at» w.potentials) s) pair);
                small = subst (λ (t : ℤ). IsWithin number_most t) (sym gain) small;
              };
            }))
            (λ (other : k ≡ goal → ⊥).
            let to = spread.ways k (near_other k other near) other_root in
            let a = begin_of (bare g) to.last in
            let from = unsettled a to.is.done in
            let same_gain : level w k -ℤ level w a ≡ level v k -ℤ level v a =
            (let e = level_other k other in let f = level_other a from in omega (arith, ints)) in
            record {
              last = to.last;
              is = record {
                label = relaxed-labels w goal s z there k other ∙ to.is.label;
                there = to.is.there;
                ends = to.is.ends;
                done = to.is.done;
                deeper = rank_other k other ∙ to.is.deeper ∙ ap (λ n. n + 1) (sym (rank_other a from));
                next = subst (λ (t : ℤ). IsPairAlong (list_at lists to.last.arc.0) to.last.forward (moved to.last.forward («at» w.flows to.last.arc.0)) t)
                    same_gain to.is.next;
                small = subst (λ (t : ℤ). IsWithin number_most t) same_gain to.is.small;
              };
            })
            (cases_eq k goal);
        tried = λ t l done other. tried-later g lists w v t later done (spread.tried t l done other);
        ranged = λ k near. ⊎_elim
            (λ (same : k ≡ goal).
            let e : level v k ≡ level v goal = ap (level v) same in
            let r = rank_at k same in
            let low = open_range.0 in
            let high = open_range.1 in
            let low' = small.0 in
            let high' = small.1 in
            let size : number_most * rank k ≡ number_most * spread.rank opened + number_most = omega arith in
            (omega (arith, ints), omega (arith, ints)))
            (λ (other : k ≡ goal → ⊥).
            let e = level_other k other in
            let r = rank_other k other in
            let range = spread.ranged k (near_other k other near) in
            let low = range.0 in
            let high = range.1 in
            let size : number_most * rank k ≡ number_most * spread.rank k = omega arith in
            (omega (arith, ints), omega (arith, ints)))
            (cases_eq k goal);
        near_rank = λ k near. ⊎_elim
            (λ (same : k ≡ goal). let r = rank_at k same in let deep = spread.done_rank opened open_done in omega arith)
            (λ (other : k ≡ goal → ⊥). let r = rank_other k other in let deep = spread.near_rank k (near_other k other near) in omega arith)
            (cases_eq k goal);
        done_rank = λ k done. (let r = rank_other k (unsettled k done) in let deep = spread.done_rank k done in omega arith);
      }

  pub tried-relaxed : Spread g lists source opened w → w.nodes ≡ g.nodes → opened < g.nodes → goal < g.nodes → s.arc.0 < length g.arcs
      → AreOnCurves g lists w.flows w.potentials
      → holds w.reached goal ≡ false
      → IsFinitePrice (list_at lists s.arc.0) s.forward («at» w.flows s.arc.0) h
      → z +ℤ «at» w.potentials goal ≡ level w opened +ℤ h
      → IsTried g lists (relaxed w goal s z) s
  tried-relaxed spread nodes begin_there end_there arc_there on_curves waits price offer =
      let v = relaxed w goal s z in
      let there : goal < w.nodes = omega (arith, nodes) in
      let pair = pair_along g lists w.flows w.potentials s on_curves arc_there in
      let open_done = spread.opened_done begin_there in
      let is_key = relaxed-key w goal s z there in
      let same = relaxed-keys w goal s z there opened
      (λ e. false≢true (sym waits ∙ subst (λ (i : ℕ). IsTrue (holds w.reached i)) e open_done)) in
      record {
        pairs = λ t least most.
            let high = most (relaxed-near w goal s z there) in
            price.upto (rise (bare g) («at» w.potentials) s) t pair least (omega (arith, ints));
      }

  pub tried-kept : AreOnCurves g lists w.flows w.potentials → s.arc.0 < length g.arcs
      → IsFinitePrice (list_at lists s.arc.0) s.forward («at» w.flows s.arc.0) h
      → z +ℤ «at» w.potentials goal ≡ level w opened +ℤ h
      → IsTrue (is_near w goal) → key w goal ≤ℤ z → IsTried g lists w s
  tried-kept on_curves arc_there price offer near order =
      record {
        pairs = λ t least most.
            let high = most near in
            price.upto (rise (bare g) («at» w.potentials) s) t (pair_along g lists w.flows w.potentials s on_curves arc_there) least (omega (arith, ints));
      }

  pub tried-barred : AreOnCurves g lists w.flows w.potentials → s.arc.0 < length g.arcs
      → IsNoPrice (list_at lists s.arc.0) s.forward («at» w.flows s.arc.0) → IsTried g lists w s
  tried-barred on_curves arc_there price =
      record {
        pairs = λ t least most.
            price.beyond (rise (bare g) («at» w.potentials) s) t (pair_along g lists w.flows w.potentials s on_curves arc_there) least;
      }

  pub tried-settled : AreOnCurves g lists w.flows w.potentials → s.arc.0 < length g.arcs
      → Spread g lists source opened w → opened < g.nodes → IsTrue (holds w.reached goal) → IsTried g lists w s
  tried-settled on_curves arc_there spread begin_there done =
      let low = spread.lower goal done in
      let open_key = spread.opened_key begin_there in
      record {
        pairs = λ t least most.
            let high = most (near-done w goal done) in
            let e : rise (bare g) («at» w.potentials) s ≡ t = omega (arith, ints) in
            subst (λ (t : ℤ). IsPairAlong (list_at lists s.arc.0) s.forward («at» w.flows s.arc.0) t) e
            (pair_along g lists w.flows w.potentials s on_curves arc_there);
      }

-- ---- the step tried

pub record StepTried (g : Graph) (lists : List (List Ext)) (source : ℕ) (s : Step) (v w : Room) : Type 0 where
  pub spread : Spread g lists source (begin_of (bare g) s) w
  pub later : IsLater v w
  pub tried : IsTried g lists w s

pub step-tried : (g : Graph) (lists : List (List Ext)) (source : ℕ) (s : Step) (v w : Room) (h z : ℤ) → Ready g lists v → s.arc.0 < length g.arcs
    → Spread g lists source (begin_of (bare g) s) v → holds v.reached (end_of (bare g) s) ≡ false
    → IsFinitePrice (list_at lists s.arc.0) s.forward («at» v.flows s.arc.0) h
    → z +ℤ «at» v.potentials (end_of (bare g) s) ≡ level v (begin_of (bare g) s) +ℤ h
    → IsImproved v w (end_of (bare g) s) s z → StepTried g lists source s v w
step-tried g lists source s v w h z ready there spread waits price offer (kept same near order) =
    subst (λ (r : Room). StepTried g lists source s v r) (sym same)
    (record {
      spread = spread;
      later = later-same v;
      tried = tried-kept g lists source v s h z ready.on_curves there price offer near order;
    })
step-tried g lists source s v w h z ready there spread waits price offer (lowered same fall) =
    let a = begin_of (bare g) s in
    let b = end_of (bare g) s in
    let begin_there = begin-in_graph g s there in
    let end_there = end-in_graph g s there in
    let r = relaxed v b s z in
    let further = later-queue r w same in
    let tried = tried-relaxed g lists source v s h z spread ready.same_nodes begin_there end_there there ready.on_curves waits price offer in
    record {
      spread = spread-queue g lists source a r w same
          (spread-relaxed g lists source v s h z spread ready.same_nodes begin_there end_there there ready.on_curves waits price offer fall);
      later = later-further v r w (relaxed-later v b s z (omega (arith, end_there, ready.same_nodes)) waits fall) further;
      tried = tried-later g lists r w s further (spread.opened_done begin_there) tried;
    }
