-- An amount that is sent. The source has that much less to give and the target lacks that much less, so the surpluses together fall
-- by it: the target has none before and after. Excesses stay what the flow makes of them, since the divergence moved in the same way.
use Rattle.std.proofs.Common.{◌≡◌, ◌≢◌, ◌⊎◌, inl, inr, ℕ, zero, suc, ◌+◌, ◌<◌, ◌≤◌, ℤ, pos, negsuc, ◌+ℤ◌, ◌-ℤ◌, neg_ℤ, ◌≤ℤ◌, ◌<ℤ◌, List, refl, sym, ap, ◌∙◌, subst, ⊎_elim, eq-eqb, arith}
use Rattle.std.proofs.lemmas.Int.{ints}
use Rattle.std.proofs.lemmas.Bool.{cases_eq, ne_eqb}
use Rattle.std.proofs.lemmas.List.{get_or-set_same, get_or-set_other}
use Rattle.theory.specs.declared.ext.Ext.{Ext}
use Rattle.theory.specs.Limits.{IsWithin}
use Rattle.theory.specs.Network.{«at»}
use Rattle.theory.specs.Conserved.{divergence}
use Rattle.net_incidence.specs.Graph.{Graph, bare}
use Rattle.painted_search.specs.Room.{Room, count_most}
use Rattle.painted_search.specs.Writes.{with_scratch}
use Rattle.theory.proofs.Counting.{total_below-same, total_below-change, total_below-term}
use Rattle.kilter_solver.specs.Ranges.{reach_most}
use Rattle.kilter_solver.specs.Excess.{excess, surpluses}
use Rattle.theory.specs.Sums.{positive_part}
use Rattle.kilter_solver.specs.Ready.{AreOnCurves, Ready}
use Rattle.kilter_solver.specs.Spread.{key, IsFound, IsSameState}
use Rattle.kilter_solver.specs.Routing.{amount_at, IsFallenBelow, IsPushed, IsBalancing, IsNotFar, IsSent, Routes, IsSafe, fall_most}
use Rattle.kilter_solver.proofs.Lowering.{fallen-falls, fallen-far, fallen-lacking}

-- ---- surpluses

part-none : (z : ℤ) → z ≤ℤ pos 0 → positive_part z ≡ 0
part-none (pos zero) h = refl
part-none (pos (suc n)) h = absurd (omega (arith, ints))
part-none (negsuc n) h = refl

part-less : (a : ℕ) (y z : ℤ) → pos a ≤ℤ z → y ≡ z -ℤ pos a → positive_part z ≡ positive_part y + a
part-less a (pos m) (pos n) h e = omega (arith, ints)
part-less a (negsuc m) (pos n) h e = absurd (omega (arith, ints))
part-less a y (negsuc n) h e = absurd (omega (arith, ints))

-- the amount less at s, the amount more at t
pub record IsMovedAmount (a n s t : ℕ) (e f : ℕ → ℤ) : Type 0 where
  pub some : 1 ≤ a
  pub s_there : s < n
  pub t_there : t < n
  pub surplus : pos a ≤ℤ e s
  pub lacks : e t ≤ℤ neg_ℤ (pos a)
  pub less : f s ≡ e s -ℤ pos a
  pub more : f t ≡ e t +ℤ pos a
  pub others : (k : ℕ) → k < n → k ≢ s → k ≢ t → f k ≡ e k

module _ (a n s t : ℕ) (e f : ℕ → ℤ) (unit : IsMovedAmount a n s t e f) where
  pub unit-fewer : surpluses n f + a ≡ surpluses n e
  unit-fewer =
      let same : (k : ℕ) → k < n → k ≢ s → positive_part (f k) ≡ positive_part (e k) =
      (λ k l other.
      ⊎_elim
      (λ (at_t : k ≡ t).
      let ek : e k ≡ e t = ap e at_t in
      let fk : f k ≡ f t = ap f at_t in
      let lacks = unit.lacks in
      let more = unit.more in
      let some = unit.some in
      part-none (f k) (omega (arith, ints)) ∙ sym (part-none (e k) (omega (arith, ints))))
      (λ (off_t : k ≡ t → ⊥). ap positive_part (unit.others k l other off_t))
      (cases_eq k t)) in
      let change = total_below-change n s (λ k. positive_part (e k)) (λ k. positive_part (f k)) unit.s_there same in
      let here = part-less a (f s) (e s) unit.surplus unit.less in
      omega arith

  -- the new excess, by the units moved
  pub unit-at : (k : ℕ) → k < n → f k ≡ (e k -ℤ amount_at (pos a) s k) +ℤ amount_at (pos a) t k
  unit-at k l =
      ⊎_elim
      (λ (at_s : s ≡ k).
      let apart : t ≢ k = (λ at_t.
      let same : e s ≡ e t = ap e (at_s ∙ sym at_t) in
      let surplus = unit.surplus in
      let lacks = unit.lacks in
      let some = unit.some in
      omega (arith, ints)) in
      let one : amount_at (pos a) s k ≡ pos a = rw (eq-eqb s k at_s) refl in
      let none : amount_at (pos a) t k ≡ pos 0 = rw (ne_eqb t k apart) refl in
      let ek : e s ≡ e k = ap e at_s in
      let fk : f s ≡ f k = ap f at_s in
      let less = unit.less in
      omega (arith, ints))
      (λ (off_s : s ≡ k → ⊥).
      let none : amount_at (pos a) s k ≡ pos 0 = rw (ne_eqb s k off_s) refl in
      ⊎_elim
      (λ (at_t : t ≡ k).
      let one : amount_at (pos a) t k ≡ pos a = rw (eq-eqb t k at_t) refl in
      let ek : e t ≡ e k = ap e at_t in
      let fk : f t ≡ f k = ap f at_t in
      let more = unit.more in
      omega (arith, ints))
      (λ (off_t : t ≡ k → ⊥).
      let none_too : amount_at (pos a) t k ≡ pos 0 = rw (ne_eqb t k off_t) refl in
      let same = unit.others k l (λ h. off_s (sym h)) (λ h. off_t (sym h)) in
      omega (arith, ints))
      (cases_eq t k))
      (cases_eq s k)

  -- an excess is below 0 only where it was, and above 0 only where it was
  pub unit-lacked : (k : ℕ) → k < n → f k <ℤ pos 0 → e k <ℤ pos 0
  unit-lacked k l h =
      ⊎_elim
      (λ (at_s : k ≡ s).
      let fk : f k ≡ f s = ap f at_s in let less = unit.less in let surplus = unit.surplus in let some = unit.some in absurd (omega (arith, ints)))
      (λ (off_s : k ≡ s → ⊥).
      ⊎_elim
      (λ (at_t : k ≡ t). let ek : e k ≡ e t = ap e at_t in let lacks = unit.lacks in let some = unit.some in omega (arith, ints))
      (λ (off_t : k ≡ t → ⊥). let same = unit.others k l off_s off_t in omega (arith, ints))
      (cases_eq k t))
      (cases_eq k s)

  pub unit-sated : (k : ℕ) → k < n → e k ≤ℤ pos 0 → f k ≤ℤ pos 0
  unit-sated k l h =
      ⊎_elim
      (λ (at_s : k ≡ s). let ek : e k ≡ e s = ap e at_s in let surplus = unit.surplus in let some = unit.some in absurd (omega (arith, ints)))
      (λ (off_s : k ≡ s → ⊥).
      ⊎_elim
      (λ (at_t : k ≡ t). let fk : f k ≡ f t = ap f at_t in let lacks = unit.lacks in let more = unit.more in let some = unit.some in omega (arith, ints))
      (λ (off_t : k ≡ t → ⊥). let same = unit.others k l off_s off_t in omega (arith, ints))
      (cases_eq k t))
      (cases_eq k s)

-- ---- a unit sent

pub record IsServed (g : Graph) (lists : List (List Ext)) (v w : Room) : Type 0 where
  pub balancing : IsBalancing g lists w
  pub sent : IsSent g v w

-- v, then with lower potentials, then with flow moved, then with the excesses written
pub served : (g : Graph) (lists : List (List Ext)) (source target : ℕ) (v p q w : Room) (a : ℕ) (left lack : ℤ) → IsBalancing g lists v
    → IsFound g lists source v target → AreOnCurves g lists v.flows v.potentials → source < g.nodes → 1 ≤ a → pos a ≤ℤ excess v source
    → excess v target ≤ℤ neg_ℤ (pos a)
    → IsFallenBelow v.nodes (key v target) v p → IsPushed g lists (pos a) source target p q
    → left ≡ excess q source -ℤ pos a → lack ≡ excess (with_scratch q source left) target +ℤ pos a
    → w ≡ with_scratch (with_scratch q source left) target lack → IsServed g lists v w
served g lists source target v p q w a left lack balancing found on_curves there some surplus lacks fall pushed left_is lack_is is =
    let target_there : target < g.nodes = omega (arith, balancing.same_nodes, found.nearest.there) in
    let apart : target ≢ source = (λ same. let e : excess v target ≡ excess v source = ap (excess v) same in omega (arith, ints)) in
    let scratch : q.scratch ≡ v.scratch = pushed.same.scratch ∙ fall.same.scratch in
    let excesses : (k : ℕ) → excess q k ≡ excess v k = (λ k. ap (λ (xs : List ℤ). «at» xs k) scratch) in
    let nodes : q.nodes ≡ g.nodes = pushed.same.nodes ∙ fall.same.nodes ∙ balancing.same_nodes in
    let written : (k : ℕ) → excess w k ≡ excess (with_scratch (with_scratch q source left) target lack) k = (λ k. ap (λ (r : Room). excess r k) is) in
    let size = q.two_words_each in
    let mid_source : excess (with_scratch q source left) source ≡ left = get_or-set_same q.scratch source left (pos 0) (omega arith) in
    let mid_other : (k : ℕ) → k ≢ source → excess (with_scratch q source left) k ≡ excess q k =
    (λ k other. get_or-set_other q.scratch source k left (pos 0) other) in
    let mid_size = (with_scratch q source left).two_words_each in
    let end_target : excess w target ≡ lack =
    written target ∙ get_or-set_same (with_scratch q source left).scratch target lack (pos 0) (omega arith) in
    let end_other : (k : ℕ) → k ≢ target → excess w k ≡ excess (with_scratch q source left) k =
    (λ k other. written k ∙ get_or-set_other (with_scratch q source left).scratch target k lack (pos 0) other) in
    let from_source = excesses source in
    let from_target = excesses target in
    let mid_target = mid_other target apart in
    let end_source = end_other source (λ same. apart (sym same)) in
    let unit : IsMovedAmount a g.nodes source target (excess v) (excess w) = record {
      some = some;
      s_there = there;
      t_there = target_there;
      surplus = surplus;
      lacks = lacks;
      less = omega (arith, ints);
      more = omega (arith, ints);
      others = λ k l off_source off_target. end_other k off_target ∙ mid_other k off_source ∙ excesses k;
    } in
    let flows : w.flows ≡ q.flows = ap (λ (r : Room). r.flows) is in
    let potentials : w.potentials ≡ p.potentials = ap (λ (r : Room). r.potentials) is ∙ pushed.same.potentials in
    let at_u : (i : ℕ) → «at» w.potentials i ≡ «at» p.potentials i = (λ i. ap (λ (u : List ℤ). «at» u i) potentials) in
    let at_x : (j : ℕ) → «at» w.flows j ≡ «at» q.flows j = (λ j. ap (λ (x : List ℤ). «at» x j) flows) in
    let at_y : (j : ℕ) → «at» p.flows j ≡ «at» v.flows j = (λ j. ap (λ (x : List ℤ). «at» x j) fall.same.flows) in
    record {
      balancing = record {
        same_nodes = ap (λ (r : Room). r.nodes) is ∙ nodes;
        same_arcs = ap (λ (r : Room). r.arcs) is ∙ pushed.same.arcs ∙ fall.same.arcs ∙ balancing.same_arcs;
        one_list_each = balancing.one_list_each;
        on_curves = subst (λ (r : Room). AreOnCurves g lists r.flows r.potentials) (sym is) pushed.on_curves;
        excesses = record {
          exact = λ i l.
              let new = unit-at a g.nodes source target (excess v) (excess w) unit i l in
              let old = balancing.excesses.exact i l in
              let moved_by = pushed.divergences i l in
              let d : divergence (bare g) («at» w.flows) i ≡ divergence (bare g) («at» q.flows) i = ap (λ (x : List ℤ). divergence (bare g) («at» x) i) flows in
              let d' : divergence (bare g) («at» p.flows) i ≡ divergence (bare g) («at» v.flows) i =
              ap (λ (x : List ℤ). divergence (bare g) («at» x) i) fall.same.flows in
              omega (arith, ints);
        };
      };
      sent = record {
        amount = a;
        some = some;
        fewer = unit-fewer a g.nodes source target (excess v) (excess w) unit;
        moves = λ j. (
            let low = pushed.low j in
            let high = pushed.high j in
            let e = at_x j in
            let f = at_y j in
            (omega (arith, ints), omega (arith, ints)));
        falls = λ i. (
            let e = at_u i in
            let h = fallen-falls g lists source target v p found on_curves balancing.same_nodes fall i in
            omega (arith, ints));
        lacked = unit-lacked a g.nodes source target (excess v) (excess w) unit;
        lacking = λ i l below.
            at_u i
            ∙ fallen-lacking g lists source target v p found on_curves balancing.same_nodes fall i
            (unit-lacked a g.nodes source target (excess v) (excess w) unit i l below);
        near = λ i. far_same i (at_u i) (fallen-far g lists source target v p found on_curves balancing.same_nodes fall i);
        sated = unit-sated a g.nodes source target (excess v) (excess w) unit;
      };
    }
  where
    far_for : (i : ℕ) → «at» w.potentials i ≡ «at» p.potentials i
        → («at» p.potentials i ≡ «at» v.potentials i)
        ⊎ ((t : ℕ) × (t < g.nodes) × (excess v t <ℤ pos 0) × («at» v.potentials t ≤ℤ («at» p.potentials i +ℤ pos (fall_most g))))
        → IsNotFar g v w i
    far_for i e (inl same) = record { far = inl (e ∙ same) }
    far_for i e (inr (t, l, h, low)) = record { far = inr (t, l, h, (omega (arith, ints))) }

    far_same : (i : ℕ) → «at» w.potentials i ≡ «at» p.potentials i → IsNotFar g v p i → IsNotFar g v w i
    far_same i e far = far_for i e far.far

-- the same for an amount that is at least 1
pub served-by : (g : Graph) (lists : List (List Ext)) (source target : ℕ) (v p q w : Room) (a left lack : ℤ) → IsBalancing g lists v
    → IsFound g lists source v target → AreOnCurves g lists v.flows v.potentials → source < g.nodes → pos 1 ≤ℤ a → a ≤ℤ excess v source
    → excess v target ≤ℤ neg_ℤ a
    → IsFallenBelow v.nodes (key v target) v p → IsPushed g lists a source target p q
    → left ≡ excess q source -ℤ a → lack ≡ excess (with_scratch q source left) target +ℤ a
    → w ≡ with_scratch (with_scratch q source left) target lack → IsServed g lists v w
served-by g lists source target v p q w (pos n) left lack balancing found on_curves there some =
    served g lists source target v p q w n left lack balancing found on_curves there (omega (arith, ints))
served-by g lists source target v p q w (negsuc n) left lack balancing found on_curves there some = absurd (omega (arith, ints))

-- what the target lacks it still lacks once the source has given
pub still-lacks : (v p q w : Room) (source target : ℕ) (left bound most : ℤ) → excess v target <ℤ pos 0 → pos 0 <ℤ excess v source
    → excess v target ≤ℤ most → IsFallenBelow v.nodes bound v p → q.scratch ≡ p.scratch → w ≡ with_scratch q source left → excess w target ≤ℤ most
still-lacks v p q w source target left bound most lacks surplus enough fall same is =
    let apart : target ≢ source = (λ e. let f : excess v target ≡ excess v source = ap (excess v) e in omega (arith, ints)) in
    let written = ap (λ (r : Room). excess r target) is in
    let other = get_or-set_other q.scratch source target left (pos 0) apart in
    let before : excess q target ≡ excess v target = ap (λ (xs : List ℤ). «at» xs target) (same ∙ fall.same.scratch) in
    omega (arith, ints)

-- an amount that the source has is one of the whole surplus
pub surplus-within : (n i : ℕ) (e : ℕ → ℤ) (most : ℕ) → i < n → surpluses n e ≤ most → e i ≤ℤ pos most
surplus-within n i e most l few =
    let term = total_below-term n i (λ k. positive_part (e k)) l in
    let under = part-under (e i) in
    omega (arith, ints)
  where
    part-under : (z : ℤ) → z ≤ℤ pos (positive_part z)
    part-under (pos k) = omega (arith, ints)
    part-under (negsuc k) = omega (arith, ints)

-- ---- one after the other

module _ (g : Graph) (u v w : Room) (routes : Routes g u v) (sent : IsSent g v w) where
  far-further-for : (i : ℕ) → («at» w.potentials i ≡ «at» v.potentials i)
      ⊎ ((t : ℕ) × (t < g.nodes) × (excess v t <ℤ pos 0) × («at» v.potentials t ≤ℤ («at» w.potentials i +ℤ pos (fall_most g)))) → IsNotFar g u v i → IsNotFar g u w i
  far-further-for i (inl same) before = stays before.far
    where
      stays : («at» v.potentials i ≡ «at» u.potentials i)
          ⊎ ((t : ℕ) × (t < g.nodes) × (excess u t <ℤ pos 0) × («at» u.potentials t ≤ℤ («at» v.potentials i +ℤ pos (fall_most g)))) → IsNotFar g u w i
      stays (inl still) = record { far = inl (same ∙ still) }
      stays (inr (t, l, h, low)) = record { far = inr (t, l, h, (omega (arith, ints))) }
  far-further-for i (inr (t, l, h, low)) before =
      let still = routes.lacking t l h in
      record { far = inr (t, l, routes.lacked t l h, (omega (arith, ints))) }

  pub routes-more : Routes g u w
  routes-more =
      let fewer = sent.fewer in
      let before = routes.fewer in
      record {
        fewer = omega arith;
        moves_up = λ j. (let m = sent.moves j in let low = m.0 in let high = m.1 in let h = routes.moves_up j in omega (arith, ints));
        moves_down = λ j. (let m = sent.moves j in let low = m.0 in let high = m.1 in let h = routes.moves_down j in omega (arith, ints));
        falls = λ i. (let one = routes.falls i in let other = sent.falls i in omega (arith, ints));
        lacked = λ i l h. routes.lacked i l (sent.lacked i l h);
        lacking = λ i l h. sent.lacking i l h ∙ routes.lacking i l (sent.lacked i l h);
        near = λ i. far-further-for i (sent.near i).far (routes.near i);
        sated = λ i l h. sent.sated i l (routes.sated i l h);
      }

-- a search alone moves nothing
pub routes-same : (g : Graph) (u v w : Room) → Routes g u v → IsSameState v w → v.nodes ≡ g.nodes → Routes g u w
routes-same g u v w routes same nodes =
    let x : (j : ℕ) → «at» w.flows j ≡ «at» v.flows j = (λ j. ap (λ (xs : List ℤ). «at» xs j) same.flows) in
    let p : (i : ℕ) → «at» w.potentials i ≡ «at» v.potentials i = (λ i. ap (λ (xs : List ℤ). «at» xs i) same.potentials) in
    let e : (i : ℕ) → i < g.nodes → excess w i ≡ excess v i = (λ i l. same.excesses i (omega (arith, nodes))) in
    let total : surpluses g.nodes (excess w) ≡ surpluses g.nodes (excess v) =
    total_below-same g.nodes (λ i. positive_part (excess w i)) (λ i. positive_part (excess v i)) (λ i l. ap positive_part (e i l)) in
    let fewer = routes.fewer in
    record {
      fewer = omega arith;
      moves_up = λ j. (let m = routes.moves_up j in let s = x j in omega (arith, ints));
      moves_down = λ j. (let m = routes.moves_down j in let s = x j in omega (arith, ints));
      falls = λ i. (let m = routes.falls i in let s = p i in omega (arith, ints));
      lacked = λ i l h. routes.lacked i l (let s = e i l in omega (arith, ints));
      lacking = λ i l h. p i ∙ routes.lacking i l (let s = e i l in omega (arith, ints));
      near = λ i. far_for i (p i) (routes.near i).far;
      sated = λ i l h. (let m = routes.sated i l h in let s = e i l in omega (arith, ints));
    }
  where
    far_for : (i : ℕ) → «at» w.potentials i ≡ «at» v.potentials i
        → («at» v.potentials i ≡ «at» u.potentials i)
        ⊎ ((t : ℕ) × (t < g.nodes) × (excess u t <ℤ pos 0) × («at» u.potentials t ≤ℤ («at» v.potentials i +ℤ pos (fall_most g))))
        → IsNotFar g u w i
    far_for i e (inl still) = record { far = inl (e ∙ still) }
    far_for i e (inr (t, l, h, low)) = record { far = inr (t, l, h, (omega (arith, ints))) }

pub balancing-same : (g : Graph) (lists : List (List Ext)) (v w : Room) → IsBalancing g lists v → IsSameState v w → IsBalancing g lists w
balancing-same g lists v w before same = record {
  same_nodes = same.nodes ∙ before.same_nodes;
  same_arcs = same.arcs ∙ before.same_arcs;
  one_list_each = before.one_list_each;
  on_curves = subst (λ (x : List ℤ). AreOnCurves g lists x w.potentials) (sym same.flows)
      (subst (λ (u : List ℤ). AreOnCurves g lists v.flows u) (sym same.potentials) before.on_curves);
  excesses = record {
    exact = λ i l.
        same.excesses i (omega (arith, before.same_nodes))
        ∙ before.excesses.exact i l
        ∙ ap (λ (x : List ℤ). neg_ℤ (divergence (bare g) («at» x) i)) (sym same.flows);
  };
}

-- ---- ranges on the way

pub ready-on_way : (g : Graph) (lists : List (List Ext)) (v w : Room) → IsSafe g v → Routes g v w → IsBalancing g lists w → g.nodes ≤ count_most
    → Ready g lists w
ready-on_way g lists v w safe routes balancing few = record {
  same_nodes = balancing.same_nodes;
  same_arcs = balancing.same_arcs;
  one_list_each = balancing.one_list_each;
  on_curves = balancing.on_curves;
  flows = λ j. (
      let m = safe.flows j in
      let low = m.0 in
      let high = m.1 in
      let surplus = safe.surplus in
      let up_most = routes.moves_up j in
      let down_most = routes.moves_down j in
      (omega (arith, ints), omega (arith, ints)));
  potentials = λ i. (
      let m = safe.potentials i in
      let low = m.0 in
      let high = m.1 in
      let falls = routes.falls i in
      let near = low_for i (routes.near i).far in
      (omega (arith, ints), omega (arith, ints)));
}
  where
    low_for : (i : ℕ) → («at» w.potentials i ≡ «at» v.potentials i)
        ⊎ ((t : ℕ) × (t < g.nodes) × (excess v t <ℤ pos 0) × («at» v.potentials t ≤ℤ («at» w.potentials i +ℤ pos (fall_most g))))
        → neg_ℤ (pos reach_most) ≤ℤ «at» w.potentials i
    low_for i (inl same) = let m = safe.potentials i in let low = m.0 in omega (arith, ints)
    low_for i (inr (t, l, h, near)) = let m = safe.potentials t in let low = m.0 in omega (arith, ints)

pub sent-before : (g : Graph) (u v w : Room) → IsSameState u v → u.nodes ≡ g.nodes → IsSent g v w → IsSent g u w
sent-before g u v w same nodes sent =
    let x : (j : ℕ) → «at» v.flows j ≡ «at» u.flows j = (λ j. ap (λ (xs : List ℤ). «at» xs j) same.flows) in
    let p : (i : ℕ) → «at» v.potentials i ≡ «at» u.potentials i = (λ i. ap (λ (xs : List ℤ). «at» xs i) same.potentials) in
    let e : (i : ℕ) → i < g.nodes → excess v i ≡ excess u i = (λ i l. same.excesses i (omega (arith, nodes))) in
    let total : surpluses g.nodes (excess v) ≡ surpluses g.nodes (excess u) =
    total_below-same g.nodes (λ i. positive_part (excess v i)) (λ i. positive_part (excess u i)) (λ i l. ap positive_part (e i l)) in
    record {
      amount = sent.amount;
      some = sent.some;
      fewer = sent.fewer ∙ total;
      moves = λ j. subst (λ (z : ℤ). IsWithin sent.amount («at» w.flows j -ℤ z)) (x j) (sent.moves j);
      falls = λ i. (let m = sent.falls i in let s = p i in omega (arith, ints));
      lacked = λ i l h. (let m = sent.lacked i l h in let s = e i l in omega (arith, ints));
      lacking = λ i l h. sent.lacking i l h ∙ p i;
      near = λ i. far_for i (sent.near i).far;
      sated = λ i l h. sent.sated i l (let s = e i l in omega (arith, ints));
    }
  where
    far_for : (i : ℕ) → («at» w.potentials i ≡ «at» v.potentials i)
        ⊎ ((t : ℕ) × (t < g.nodes) × (excess v t <ℤ pos 0) × («at» v.potentials t ≤ℤ («at» w.potentials i +ℤ pos (fall_most g))))
        → IsNotFar g u w i
    far_for i (inl still) = record { far = inl (still ∙ ap (λ (xs : List ℤ). «at» xs i) same.potentials) }
    far_for i (inr (t, l, h, low)) =
        let s = same.excesses t (omega (arith, nodes)) in
        let m : «at» v.potentials t ≡ «at» u.potentials t = ap (λ (xs : List ℤ). «at» xs t) same.potentials in
        record { far = inr (t, l, (omega (arith, ints)), (omega (arith, ints))) }
