-- An amount moves along the labels, from the target back to the source. Ranks fall by one a label, so the source is reached in as
-- many steps as there are nodes. An arc that a step moves has one end of the step's higher rank, so all arcs between nodes of
-- lower rank are still as they were, and the labels over them still have room. A step moves the amount of divergence from where it
-- ends to where it begins.
use Rattle.std.proofs.Common.{◌≡◌, ◌≢◌, inl, inr, ℕ, ◌+◌, ◌<◌, ◌≤◌, ◌==◌, ℤ, pos, ◌+ℤ◌, ◌-ℤ◌, neg_ℤ, ◌≤ℤ◌, Bool, true, false, if◌then◌else◌, Option, Some, List, length, set, refl, sym, ap, ◌∙◌, subst, ⊎_elim, add-one, arith}
use Rattle.std.proofs.lemmas.Int.{ints}
use Rattle.std.proofs.lemmas.Bool.{cases_eq}
use Rattle.std.proofs.lemmas.List.{get_or-set_same, get_or-set_other}
use Rattle.theory.specs.declared.ext.Ext.{Ext}
use Rattle.theory.specs.declared.network.Step.{Step}
use Rattle.theory.specs.Sums.{counted}
use Rattle.theory.specs.OnCurve.{IsOnCurve}
use Rattle.theory.specs.Network.{Network, «at», tail, head, list_at}
use Rattle.theory.specs.Conserved.{divergence, tension}
use Rattle.theory.specs.Circuit.{begin_of, end_of}
use Rattle.theory.proofs.SumsBelow.{sum_below-change, counted-add}
use Rattle.net_incidence.specs.Graph.{Graph, bare}
use Rattle.painted_search.specs.Room.{Room}
use Rattle.painted_search.specs.Writes.{with_flow}
use Rattle.painted_search.specs.Path.{label_at}
use Rattle.kilter_solver.specs.Along.{directed, IsPairAlong, moved_by}
use Rattle.kilter_solver.specs.Ready.{AreOnCurves}
use Rattle.kilter_solver.specs.Routing.{IsOn, IsTight, IsRoute, begin_or, back, HasRoomBack, amount_at, IsPushed}

-- ---- the divergence where one flow moves

-- for any change d of the flow of arc j
pub divergence-changed : (net : Network) (x y : ℕ → ℤ) (j : ℕ) (d : ℤ) → j < length net.arcs → ((k : ℕ) → k < length net.arcs → k ≢ j → y k ≡ x k)
    → y j ≡ x j +ℤ d → (i : ℕ)
    → divergence net y i ≡ (divergence net x i +ℤ counted (tail net j == i) d) -ℤ counted (head net j == i) d
divergence-changed net x y j d there same more i =
    let m = length net.arcs in
    let out = sum_below-change m j (λ k. counted (tail net k == i) (x k)) (λ k. counted (tail net k == i) (y k)) there
    (λ k l other. ap (counted (tail net k == i)) (same k l other)) in
    let into = sum_below-change m j (λ k. counted (head net k == i) (x k)) (λ k. counted (head net k == i) (y k)) there
    (λ k l other. ap (counted (head net k == i)) (same k l other)) in
    let at_tail = ap (counted (tail net j == i)) more ∙ counted-add (tail net j == i) (x j) d in
    let at_head = ap (counted (head net j == i)) more ∙ counted-add (head net j == i) (x j) d in
    omega (arith, ints)

counted-neg : (b : Bool) (a : ℤ) → counted b (neg_ℤ a) ≡ neg_ℤ (counted b a)
counted-neg true a = refl
counted-neg false a = refl

moved-ends : (a : ℤ) (f : Bool) (from to i : ℕ) (x y : ℤ)
    → y ≡ (x +ℤ counted (from == i) (directed f a)) -ℤ counted (to == i) (directed f a)
    → (y +ℤ amount_at a (if f then to else from) i) ≡ (x +ℤ amount_at a (if f then from else to) i)
moved-ends a true from to i x y e = omega (arith, ints)
moved-ends a false from to i x y e =
    let out = counted-neg (from == i) a in
    let into = counted-neg (to == i) a in
    omega (arith, ints)

divergence-moved : (a : ℤ) (net : Network) (s : Step) (x y : ℕ → ℤ) → s.arc.0 < length net.arcs
    → ((k : ℕ) → k < length net.arcs → k ≢ s.arc.0 → y k ≡ x k) → y s.arc.0 ≡ moved_by a s.forward (x s.arc.0) → (i : ℕ)
    → (divergence net y i +ℤ amount_at a (end_of net s) i) ≡ (divergence net x i +ℤ amount_at a (begin_of net s) i)
divergence-moved a net s x y there same more i =
    moved-ends a s.forward (tail net s.arc.0) (head net s.arc.0) i (divergence net x i) (divergence net y i)
    (divergence-changed net x y s.arc.0 (directed s.forward a) there same more i)

-- ---- the ends of a step

back_along : (items : List Ext) (x : ℤ) (u : ℕ → ℤ) (from to : ℕ) (f : Bool)
    → IsPairAlong items f x (u (if f then to else from) -ℤ u (if f then from else to)) → IsOnCurve 1 items x (u to -ℤ u from)
back_along items x u from to true on = on
back_along items x u from to false on =
    let e : directed false (u from -ℤ u to) ≡ u to -ℤ u from = omega (arith, ints) in subst (λ (t : ℤ). IsOnCurve 1 items x t) e on

both_below : (rank : ℕ → ℕ) (from to n : ℕ) (f : Bool) → rank (if f then to else from) ≤ n → rank (if f then from else to) ≤ n
    → (rank from ≤ n) × (rank to ≤ n)
both_below rank from to n true end begin = (begin, end)
both_below rank from to n false end begin = (end, begin)

end_low : (rank : ℕ → ℕ) (from to n : ℕ) (f : Bool) → rank from ≤ n → rank to ≤ n → rank (if f then to else from) ≤ n
end_low rank from to n true l h = h
end_low rank from to n false l h = l

moved-low : (a : ℤ) (f : Bool) (x : ℤ) → pos 0 ≤ℤ a → x ≤ℤ (moved_by a f x +ℤ a)
moved-low a true x some = omega (arith, ints)
moved-low a false x some = omega (arith, ints)

moved-high : (a : ℤ) (f : Bool) (x : ℤ) → pos 0 ≤ℤ a → moved_by a f x ≤ℤ (x +ℤ a)
moved-high a true x some = omega (arith, ints)
moved-high a false x some = omega (arith, ints)

-- ---- the way back

pub back-more : (net : Network) (labels : List (Option Step)) (target k : ℕ) (s : Step) → label_at labels (back net labels target k) ≡ Some s
    → begin_of net s ≡ back net labels target (k + 1)
back-more net labels target k s label =
    let more : back net labels target (k + 1) ≡ begin_or net (back net labels target k) (label_at labels (back net labels target k)) = rw add-one refl in
    sym (more ∙ ap (begin_or net (back net labels target k)) label)

-- after k steps back the amount has moved from the node to the target
pub record IsPushing (g : Graph) (lists : List (List Ext)) (a : ℤ) (source target : ℕ) (v w : Room) (node k : ℕ) : Type 0 where
  pub route : IsRoute g lists source target v
  pub room : HasRoomBack g lists source target v a
  pub positive : pos 0 ≤ℤ a
  pub pushed : IsPushed g lists a node target v w
  pub on : IsOn v target node
  pub place : node ≡ back (bare g) v.labels target k
  pub within : k ≤ room.count
  pub short : k + route.rank node ≤ g.nodes
  pub untouched : (j : ℕ) → j < length g.arcs → route.rank (tail (bare g) j) ≤ route.rank node → route.rank (head (bare g) j) ≤ route.rank node
      → «at» w.flows j ≡ «at» v.flows j

pub pushing-begun : (g : Graph) (lists : List (List Ext)) (a : ℤ) (source target : ℕ) (v : Room) → IsRoute g lists source target v
    → HasRoomBack g lists source target v a → pos 0 ≤ℤ a
    → AreOnCurves g lists v.flows v.potentials → IsPushing g lists a source target v v target 0
pushing-begun g lists a source target v route room positive on_curves = record {
  route = route;
  room = room;
  positive = positive;
  pushed = record {
    same = record { nodes = refl; arcs = refl; potentials = refl; reached = refl; labels = refl; scratch = refl };
    on_curves = on_curves;
    low = λ j. omega (arith, ints);
    high = λ j. omega (arith, ints);
    divergences = λ i l. refl;
  };
  on = inr refl;
  place = refl;
  within = omega arith;
  short = (let h = route.short target (inr refl) in omega arith);
  untouched = λ j l tails heads. refl;
}

module _ (g : Graph) (lists : List (List Ext)) (source target : ℕ) (v w : Room) (node k : ℕ) (s : Step)
    (a : ℤ) (before : IsPushing g lists a source target v w node k) (other : node ≢ source) (label : label_at w.labels node ≡ Some s) where
  some-same : (a b : Step) → Some a ≡ Some b → a ≡ b
  some-same a b e = cc

  -- the label is the tight one
  pub pushing-tight : IsTight g lists v before.route.rank node s
  pushing-tight =
      let to = before.route.ways node before.on other in
      let same : to.last ≡ s =
      some-same to.last s (sym to.is.label ∙ ap (λ labels. label_at labels node) (sym before.pushed.same.labels) ∙ label) in
      subst (λ (t : Step). IsTight g lists v before.route.rank node t) same to.is

  -- its arc hasn't been moved
  pub pushing-still : «at» w.flows s.arc.0 ≡ «at» v.flows s.arc.0
  pushing-still =
      let tight = pushing-tight in
      let rank = before.route.rank in
      let end_rank : rank (end_of (bare g) s) ≡ rank node = ap rank tight.ends in
      let deeper = tight.deeper in
      let ends_low = both_below rank (tail (bare g) s.arc.0) (head (bare g) s.arc.0) (rank node) s.forward (omega arith) (omega arith) in
      before.untouched s.arc.0 tight.there ends_low.0 ends_low.1

  pub pushing-more : (w' : Room) → w' ≡ with_flow w s.arc.0 (moved_by a s.forward («at» w.flows s.arc.0)) → w.arcs ≡ length g.arcs
      → IsPushing g lists a source target v w' (begin_of (bare g) s) (k + 1)
  pushing-more w' is arcs =
      let tight = pushing-tight in
      let rank = before.route.rank in
      let j = s.arc.0 in
      let start = begin_of (bare g) s in
      let from = tail (bare g) j in
      let to = head (bare g) j in
      let flows_is : w'.flows ≡ set w.flows j (moved_by a s.forward («at» w.flows j)) = ap (λ (r : Room). r.flows) is in
      let new : «at» w'.flows j ≡ moved_by a s.forward («at» w.flows j) =
      ap (λ (x : List ℤ). «at» x j) flows_is
      ∙ get_or-set_same w.flows j (moved_by a s.forward («at» w.flows j)) (pos 0) (omega (arith, tight.there, w.sized.one_flow_each)) in
      let old : (i : ℕ) → i ≢ j → «at» w'.flows i ≡ «at» w.flows i =
      (λ i apart. ap (λ (x : List ℤ). «at» x i) flows_is ∙ get_or-set_other w.flows j i (moved_by a s.forward («at» w.flows j)) (pos 0) apart) in
      let end_rank : rank (end_of (bare g) s) ≡ rank node = ap rank tight.ends in
      let deeper = tight.deeper in
      let still : «at» w.flows j ≡ «at» v.flows j = pushing-still in
      let label_v : label_at v.labels (back (bare g) v.labels target k) ≡ Some s =
      ap (label_at v.labels) (sym before.place) ∙ tight.label in
      let not_there : k ≢ before.room.count = (λ e. other (before.place ∙ ap (back (bare g) v.labels target) e ∙ before.room.ends)) in
      let within = before.within in
      let further : k < before.room.count = omega arith in
      let pair = (before.room.room k further s label_v).pairs a before.positive (omega (arith, ints)) in
      let potentials : w'.potentials ≡ v.potentials = ap (λ (r : Room). r.potentials) is ∙ before.pushed.same.potentials in
      let before_potentials = before.pushed.same.potentials in
      record {
        route = before.route;
        room = before.room;
        positive = before.positive;
        pushed = record {
          same = record {
            nodes = ap (λ (r : Room). r.nodes) is ∙ before.pushed.same.nodes;
            arcs = ap (λ (r : Room). r.arcs) is ∙ before.pushed.same.arcs;
            potentials = potentials;
            reached = ap (λ (r : Room). r.reached) is ∙ before.pushed.same.reached;
            labels = ap (λ (r : Room). r.labels) is ∙ before.pushed.same.labels;
            scratch = ap (λ (r : Room). r.scratch) is ∙ before.pushed.same.scratch;
          };
          on_curves = record {
            pairs = λ i l. ⊎_elim
                (λ (same : i ≡ j).
                let here = back_along (list_at lists j) (moved_by a s.forward («at» v.flows j)) («at» v.potentials) from to s.forward pair in
                let x_is : moved_by a s.forward («at» v.flows j) ≡ «at» w'.flows j = ap (moved_by a s.forward) (sym still) ∙ sym new in
                subst (λ (n : ℕ). IsOnCurve 1 (list_at lists n) («at» w'.flows n) (tension (bare g) («at» w'.potentials) n)) (sym same)
                (subst (λ (u : List ℤ). IsOnCurve 1 (list_at lists j) («at» w'.flows j) (tension (bare g) («at» u) j)) (sym potentials)
                (subst (λ (x : ℤ). IsOnCurve 1 (list_at lists j) x (tension (bare g) («at» v.potentials) j)) x_is here)))
                (λ (apart : i ≡ j → ⊥).
                subst (λ (u : List ℤ). IsOnCurve 1 (list_at lists i) («at» w'.flows i) (tension (bare g) («at» u) i)) (before_potentials ∙ sym potentials)
                (subst (λ (x : ℤ). IsOnCurve 1 (list_at lists i) x (tension (bare g) («at» w.potentials) i)) (sym (old i apart))
                (before.pushed.on_curves.pairs i l)))
                (cases_eq i j);
          };
          low = λ i. ⊎_elim
              (λ (same : i ≡ j).
              let e : «at» w'.flows j ≡ moved_by a s.forward («at» v.flows j) = new ∙ ap (moved_by a s.forward) still in
              let h = moved-low a s.forward («at» v.flows j) before.positive in
              subst (λ (n : ℕ). «at» v.flows n ≤ℤ («at» w'.flows n +ℤ a)) (sym same)
              (subst (λ (z : ℤ). «at» v.flows j ≤ℤ (z +ℤ a)) (sym e) h))
              (λ (apart : i ≡ j → ⊥). let e = old i apart in let h = before.pushed.low i in omega (arith, ints))
              (cases_eq i j);
          high = λ i. ⊎_elim
              (λ (same : i ≡ j).
              let e : «at» w'.flows j ≡ moved_by a s.forward («at» v.flows j) = new ∙ ap (moved_by a s.forward) still in
              let h = moved-high a s.forward («at» v.flows j) before.positive in
              subst (λ (n : ℕ). «at» w'.flows n ≤ℤ («at» v.flows n +ℤ a)) (sym same)
              (subst (λ (z : ℤ). z ≤ℤ («at» v.flows j +ℤ a)) (sym e) h))
              (λ (apart : i ≡ j → ⊥). let e = old i apart in let h = before.pushed.high i in omega (arith, ints))
              (cases_eq i j);
          divergences = λ i l.
              let step_law = divergence-moved a (bare g) s («at» w.flows) («at» w'.flows) tight.there (λ n there apart. old n apart) new i in
              let past = before.pushed.divergences i l in
              let end_is : amount_at a (end_of (bare g) s) i ≡ amount_at a node i = ap (λ (n : ℕ). amount_at a n i) tight.ends in
              omega (arith, ints);
        };
        on = inl tight.done;
        place = back-more (bare g) v.labels target k s label_v;
        within = omega arith;
        short = (let h = before.short in omega arith);
        untouched = λ i l tails heads. ⊎_elim
            (λ (same : i ≡ j).
            let low = end_low rank from to (rank start) s.forward (subst (λ (n : ℕ). rank (tail (bare g) n) ≤ rank start) same tails)
            (subst (λ (n : ℕ). rank (head (bare g) n) ≤ rank start) same heads) in
            absurd (omega arith))
            (λ (apart : i ≡ j → ⊥). old i apart ∙ before.untouched i l (omega arith) (omega arith))
            (cases_eq i j);
      }
