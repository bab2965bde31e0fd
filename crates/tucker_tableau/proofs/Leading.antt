-- One step of `lead`. Let m be a ground arc of a row. The potential that is 1 on the nodes connected with m + 1 and 0 elsewhere
-- rises along that row's arc and along no other row's, so the tension law gives the entry of m in the column of arc k: 1 if k
-- begins among these nodes and doesn't end there, -1 if it ends there and doesn't begin there, else 0. So if no ground row
-- passes, both ends of k have one first node, and a path over the model arcs of the tree closes a circuit with k. Else the two
-- first nodes are different, their ground arcs are the two rows that pass, and the greater one leaves the tree: the first node
-- of the nodes that k connects is the other one.
use Rattle.std.proofs.Common.{◌≡◌, ◌≢◌, ◌⊎◌, ℕ, zero, suc, ◌+◌, ◌<◌, ◌≤◌, ◌==◌, cond, ℤ, pos, ◌-ℤ◌, ◌*ℤ◌, neg_ℤ, List, ◌∷◌, length, set, refl, sym, ap, ap₂, ◌∙◌, ⊎_elim, inl, inr, eq-eqb, length-set, arith}
use Rattle.std.proofs.lemmas.Int.{ints}
use Rattle.std.proofs.lemmas.Bool.{cases_eq, cases_lt, ne_eqb}
use Rattle.theory.specs.declared.network.Step.{Step}
use Rattle.theory.specs.Sums.{counted}
use Rattle.theory.specs.Network.{Network, tail, head}
use Rattle.theory.specs.Conserved.{tension}
use Rattle.theory.specs.Tucker.{HasArc, GoesOver}
use Rattle.theory.proofs.Rings.{rings}
use Rattle.tucker_tableau.specs.Tableau.{number, TensionLaw, IsSplit}
use Rattle.tucker_tableau.specs.Lead.{IsModelNetwork, arc_of, Closes, part, IsLedTo}
use Rattle.tucker_tableau.proofs.Pivots.{tension_alone}
use Rattle.tucker_tableau.proofs.Exchange.{number-same, number-other, has_kept}
use Rattle.tucker_tableau.proofs.Paths.{part-same, part-ends, path, Each-at}
use Rattle.tucker_tableau.proofs.Circuits.{circuit_of, after}

-- ---- the entries of ground rows

pub mark : ℕ → ℕ → ℤ
mark v m = counted (v == m) (pos 1)

pub mark-hit : (v m : ℕ) → v ≡ m → mark v m ≡ pos 1
unfolding mark
mark-hit v m e = rw (eq-eqb v m e)

pub mark-miss : (v m : ℕ) → v ≢ m → mark v m ≡ pos 0
unfolding mark
mark-miss v m ne = rw (ne_eqb v m ne)

pub ground_entry : (net : Network) (n : ℕ) (rows columns : List ℕ) (a : ℕ → ℕ → ℤ) (k i s : ℕ) → IsModelNetwork net n → TensionLaw net rows columns a
    → IsSplit net rows columns → (state : IsLedTo net n rows k) → i < length rows → number rows i < n → s < length columns
    → mark (state.least (head net (number columns s))) (number rows i + 1) -ℤ mark (state.least (tail net (number columns s))) (number rows i + 1) ≡ neg_ℤ (a i s)
ground_entry net n rows columns a k i s model law split state row ground column =
    let f = state.least in
    let m = number rows i in
    let u : ℕ → ℤ = λ v. mark (f v) (m + 1) in
    let at_ground : u 0 ≡ pos 0 = mark-miss (f 0) (m + 1) (λ e. let l = state.lowers 0 in omega arith) in
    let own_first : f (m + 1) ≡ m + 1 = (state.firsts m ground).0 (record { place = i; there = row; is = refl }) in
    let rise : (c : ℕ) → c < n → tension net u c ≡ u (c + 1) -ℤ pos 0 = λ c l.
    ap₂ (λ v w. u v -ℤ u w) (model.ground_heads c l) (model.ground_tails c l) ∙ ap (λ w. u (c + 1) -ℤ w) at_ground in
    let own : tension net u m ≡ pos 1 = rise m ground ∙ ap (λ w. w -ℤ pos 0) (mark-hit (f (m + 1)) (m + 1) own_first) in
    let others : (p : ℕ) → p < length rows → p ≢ i → tension net u (number rows p) ≡ pos 0 = λ p l ne. ⊎_elim
    (λ (below : number rows p < n).
    let first : f (number rows p + 1) ≡ number rows p + 1 = (state.firsts (number rows p) below).0 (record { place = p; there = l; is = refl }) in
    rise (number rows p) below ∙ ap (λ w. w -ℤ pos 0) (mark-miss (f (number rows p + 1)) (m + 1) (λ e. rows_apart net rows columns split p i l row ne (let d = sym first ∙ e in omega arith))))
    (λ (above : n ≤ number rows p). flat (u (head net (number rows p))) (u (tail net (number rows p))) (ap (λ v. mark v (m + 1)) (state.level p l above)))
    (cases_lt (number rows p) n) in
    let alone = tension_alone (length rows) i (λ p. a p s) (λ p. tension net u (number rows p)) row others in
    law u s column ∙ ap neg_ℤ (alone ∙ ap (λ w. a i s *ℤ w) own ∙ once (a i s))
  where
    once : (x : ℤ) → x *ℤ pos 1 ≡ x
    once x = omega (arith, rings)

    flat : (h t : ℤ) → h ≡ t → h -ℤ t ≡ pos 0
    flat h t e = omega (arith, ints)

    rows_apart : (net : Network) (rows columns : List ℕ) → IsSplit net rows columns → (p i : ℕ) → p < length rows → i < length rows → p ≢ i → number rows p ≢ number rows i
    rows_apart net rows columns split p i l m ne e =
        ⊎_elim (λ (below : p < i). split.rows_differ p i below m e) (λ (above : i ≤ p). split.rows_differ i p (omega arith) l (sym e)) (cases_lt p i)

-- ---- an arc that closes a circuit

-- a path over the arcs taken
abbrev pub IsOver : Network → ℕ → List ℕ → ℕ → List Step → Type 0
IsOver net n rows k walk = (l : ℕ) → l < length walk → (n ≤ arc_of walk l) × (arc_of walk l < k) × HasArc rows (arc_of walk l)

pub taken_over : (net : Network) (n : ℕ) (rows : List ℕ) (k : ℕ) (state : IsLedTo net n rows k) (walk : List Step) → GoesOver state.taken walk → IsOver net n rows k walk
taken_over net n rows k state walk over l m =
    let h = over l m in
    let t = state.taken_there h.place h.there in
    rw (← h.is) t

closes_circuit : (net : Network) (n : ℕ) (rows : List ℕ) (k : ℕ) (state : IsLedTo net n rows k) → state.least (head net k) ≡ state.least (tail net k) → Closes net n rows k
closes_circuit net n rows k state same =
    let p = path net state.taken (head net k) (tail net k) state.taken_differ (state.joined (head net k) (tail net k) same) in
    let of = circuit_of net state.taken k p.0 p.1 (λ h. let t = state.taken_there h.place h.there in let e = h.is in omega arith) in
    record { walk = after k p.0; circuit = of.circuit; over = over p.0 (taken_over net n rows k state p.0 (Each-at (λ s. HasArc state.taken s.arc.0) p.0 p.1.over)) }
  where
    over : (walk : List Step) → IsOver net n rows k walk → (l : ℕ) → l < length (after k walk)
        → (arc_of (after k walk) l ≡ k) ⊎ ((n ≤ arc_of (after k walk) l) × (arc_of (after k walk) l < k) × HasArc rows (arc_of (after k walk) l))
    over walk all zero m = inl refl
    over walk all (suc l) m = inr (all l (omega arith))

pub led-passed : (net : Network) (n : ℕ) (rows : List ℕ) (k : ℕ) → n ≤ k → (state : IsLedTo net n rows k) → state.least (head net k) ≡ state.least (tail net k) → IsLedTo net n rows (k + 1)
led-passed net n rows k model_arc state same =
    record {
      least = state.least;
      taken = state.taken;
      lowers = state.lowers;
      again = state.again;
      not_ground = state.not_ground;
      level = state.level;
      firsts = state.firsts;
      before = λ i l. ⊎_elim (λ (g : number rows i < n). inl g) (λ (b : number rows i < k). inr (omega arith)) (state.before i l);
      joined = state.joined;
      taken_there = λ i l. (let t = state.taken_there i l in (t.0, omega (arith, t.1), t.2));
      taken_differ = state.taken_differ;
      settled = λ m l h. ⊎_elim (λ (below : m < k). state.settled m l below)
          (λ (above : k ≤ m). let e : m ≡ k = omega arith in rw e (inr (closes_circuit net n rows k state same))) (cases_lt m k);
    }

-- ---- an arc that is taken

-- two parts become one, under the lower of their first nodes
merged : (ℕ → ℕ) → ℕ → ℕ → ℕ → ℕ
merged f low high v = cond (f v == high) low (f v)

merged-hit : (f : ℕ → ℕ) (low high v : ℕ) → f v ≡ high → merged f low high v ≡ low
unfolding merged
merged-hit f low high v e = rw (eq-eqb (f v) high e)

merged-miss : (f : ℕ → ℕ) (low high v : ℕ) → f v ≢ high → merged f low high v ≡ f v
unfolding merged
merged-miss f low high v ne = rw (ne_eqb (f v) high ne)

merged_level : (f : ℕ → ℕ) (low high v w : ℕ) → f v ≡ f w → merged f low high v ≡ merged f low high w
unfolding merged
merged_level f low high v w e = ap (λ x. cond (x == high) low x) e

pub record IsMerge (f : ℕ → ℕ) (low high t h : ℕ) : Type 0 where
  pub above_ground : 1 ≤ low
  pub order : low < high
  pub low_first : f low ≡ low
  pub high_first : f high ≡ high
  pub ends : ((f t ≡ high) × (f h ≡ low)) ⊎ ((f t ≡ low) × (f h ≡ high))

merged-ends : (f : ℕ → ℕ) (low high t h : ℕ) → IsMerge f low high t h → merged f low high h ≡ merged f low high t
merged-ends f low high t h m =
    ⊎_elim
    (λ (e : (f t ≡ high) × (f h ≡ low)). merged-miss f low high h (λ z. let o = m.order in let e1 = e.1 in omega arith) ∙ e.1 ∙ sym (merged-hit f low high t e.0))
    (λ (e : (f t ≡ low) × (f h ≡ high)). merged-hit f low high h e.1 ∙ sym e.0 ∙ sym (merged-miss f low high t (λ z. let o = m.order in let e0 = e.0 in omega arith)))
    m.ends

merged-again : (f : ℕ → ℕ) (low high t h : ℕ) → IsMerge f low high t h → ((v : ℕ) → f (f v) ≡ f v) → (v : ℕ) → merged f low high (merged f low high v) ≡ merged f low high v
merged-again f low high t h m again v =
    let at_low : merged f low high low ≡ low = merged-miss f low high low (λ e. let o = m.order in let l = m.low_first in omega arith) ∙ m.low_first in
    ⊎_elim
    (λ (e : f v ≡ high). ap (merged f low high) (merged-hit f low high v e) ∙ at_low ∙ sym (merged-hit f low high v e))
    (λ (ne : f v ≡ high → ⊥).
    ap (merged f low high) (merged-miss f low high v ne) ∙ merged-miss f low high (f v) (λ e. ne (sym (again v) ∙ e)) ∙ again v ∙ sym (merged-miss f low high v ne))
    (cases_eq (f v) high)

merged-joined : (net : Network) (taken : List ℕ) (k : ℕ) (f : ℕ → ℕ) (low high : ℕ) → IsMerge f low high (tail net k) (head net k)
    → ((v w : ℕ) → f v ≡ f w → part net taken v ≡ part net taken w)
    → (v w : ℕ) → merged f low high v ≡ merged f low high w → part net (k ∷ taken) v ≡ part net (k ∷ taken) w
merged-joined net taken k f low high m joined v w same =
    let t = tail net k in
    let h = head net k in
    let among : (x : ℕ) → (f x ≡ high) ⊎ (f x ≡ low) → part net (k ∷ taken) x ≡ part net (k ∷ taken) t = λ x which.
    ⊎_elim
    (λ (at_t : f x ≡ f t). part-same net k taken x t (joined x t at_t))
    (λ (at_h : f x ≡ f h). part-same net k taken x h (joined x h at_h) ∙ part-ends net k taken)
    (pick (f x) (f t) (f h) which m.ends) in
    ⊎_elim
    (λ (e : f v ≡ high).
    ⊎_elim
    (λ (g : f w ≡ high). part-same net k taken v w (joined v w (e ∙ sym g)))
    (λ (ng : f w ≡ high → ⊥). among v (inl e) ∙ sym (among w (inr (sym (merged-miss f low high w ng) ∙ sym same ∙ merged-hit f low high v e))))
    (cases_eq (f w) high))
    (λ (ne : f v ≡ high → ⊥).
    ⊎_elim
    (λ (g : f w ≡ high). among v (inr (sym (merged-miss f low high v ne) ∙ same ∙ merged-hit f low high w g)) ∙ sym (among w (inl g)))
    (λ (ng : f w ≡ high → ⊥). part-same net k taken v w (joined v w (sym (merged-miss f low high v ne) ∙ same ∙ merged-miss f low high w ng)))
    (cases_eq (f w) high))
    (cases_eq (f v) high)
  where
    pick : (x t h : ℕ) → (x ≡ high) ⊎ (x ≡ low) → ((t ≡ high) × (h ≡ low)) ⊎ ((t ≡ low) × (h ≡ high)) → (x ≡ t) ⊎ (x ≡ h)
    pick x t h (inl e) (inl g) = inl (e ∙ sym g.0)
    pick x t h (inl e) (inr g) = inr (e ∙ sym g.1)
    pick x t h (inr e) (inl g) = inr (e ∙ sym g.1)
    pick x t h (inr e) (inr g) = inl (e ∙ sym g.0)

-- a row that is not the one that changes keeps its arc
has_left : (rows : List ℕ) (r k l : ℕ) → HasArc (set rows r k) l → l ≢ k → r < length rows → (h : HasArc rows l) × (h.place ≢ r)
has_left rows r k l h off there =
    let apart : h.place ≢ r = λ e. off (sym h.is ∙ number-same rows r k h.place there e) in
    let bound : h.place < length rows = rw (length-set rows r k) at h.there in
    (record { place = h.place; there = bound; is = sym (number-other rows r k h.place apart) ∙ h.is }, apart)

stays : (rows : List ℕ) (r k l : ℕ) → HasArc rows l → l ≢ number rows r → HasArc (set rows r k) l
stays rows r k l h off = has_kept rows r k l h (λ e. off (sym h.is ∙ ap (number rows) e))

pub led-taken : (net : Network) (n : ℕ) (rows columns : List ℕ) (k r low high : ℕ) → IsSplit net rows columns → n ≤ k → (state : IsLedTo net n rows k)
    → r < length rows → number rows r < n → high ≡ number rows r + 1 → IsMerge state.least low high (tail net k) (head net k)
    → IsLedTo net n (set rows r k) (k + 1)
led-taken net n rows columns k r low high split model_arc state row ground at_high merge =
    let f = state.least in
    let f' = merged f low high in
    let kept : (l : ℕ) → HasArc rows l → n ≤ l → HasArc (set rows r k) l = λ l h m. stays rows r k l h (λ e. omega arith) in
    let new : HasArc (set rows r k) k = record { place = r; there = rw (length-set rows r k) row; is = number-same rows r k r row refl } in
    let old_row : (i : ℕ) → i < length (set rows r k) → i < length rows = λ i l. (rw (length-set rows r k) at l) in
    let all_below : (i : ℕ) → i < length state.taken → number state.taken i < k = λ i l. (state.taken_there i l).1 in
    record {
      least = f';
      taken = k ∷ state.taken;
      lowers = λ v. ⊎_elim
          (λ (e : f v ≡ high). let l = state.lowers v in let o = merge.order in let h = merged-hit f low high v e in omega arith)
          (λ (ne : f v ≡ high → ⊥). let l = state.lowers v in let h = merged-miss f low high v ne in omega arith) (cases_eq (f v) high);
      again = merged-again f low high (tail net k) (head net k) merge state.again;
      not_ground = λ v one. ⊎_elim
          (λ (e : f v ≡ high). let o = merge.above_ground in let h = merged-hit f low high v e in omega arith)
          (λ (ne : f v ≡ high → ⊥). let l = state.not_ground v one in let h = merged-miss f low high v ne in omega arith) (cases_eq (f v) high);
      level = λ i l model. ⊎_elim
          (λ (e : i ≡ r). rw (number-same rows r k i row e) (merged-ends f low high (tail net k) (head net k) merge))
          (λ (ne : i ≡ r → ⊥).
          let same = number-other rows r k i ne in
          let model_row : n ≤ number rows i = rw same at model in
          rw same (merged_level f low high (head net (number rows i)) (tail net (number rows i)) (state.level i (old_row i l) model_row)))
          (cases_eq i r);
      firsts = λ v l. (
        λ h. (
            let left = has_left rows r k v h (λ e. omega arith) row in
            let first = (state.firsts v l).0 left.0 in
            merged-miss f low high (v + 1) (λ e. rows_apart split left.0.place r left.0.there row left.1 (let z = left.0.is in omega arith)) ∙ first),
        λ e. ⊎_elim
            (λ (hit : f (v + 1) ≡ high).
            let down = merged-hit f low high (v + 1) hit in
            let order = merge.order in
            let most = state.lowers (v + 1) in
            absurd (omega arith))
            (λ (miss : f (v + 1) ≡ high → ⊥).
            let first : f (v + 1) ≡ v + 1 = sym (merged-miss f low high (v + 1) miss) ∙ e in
            stays rows r k v ((state.firsts v l).1 first) (λ same. miss (first ∙ ap (λ z. z + 1) same ∙ sym at_high))) (cases_eq (f (v + 1)) high),
      );
      before = λ i l. ⊎_elim
          (λ (e : i ≡ r). inr (rw (number-same rows r k i row e) (omega arith)))
          (λ (ne : i ≡ r → ⊥). ⊎_elim
          (λ (g : number rows i < n). inl (rw (number-other rows r k i ne) g))
          (λ (b : number rows i < k). inr (rw (number-other rows r k i ne) (omega arith)))
          (state.before i (old_row i l))) (cases_eq i r);
      joined = merged-joined net state.taken k f low high merge state.joined;
      taken_there = there state.taken kept new model_arc state.taken_there;
      taken_differ = differ state.taken all_below state.taken_differ;
      settled = λ m l h. ⊎_elim
          (λ (below : m < k). ⊎_elim (λ (has : HasArc rows m). inl (kept m has l)) (λ (closes : Closes net n rows m). inr (closes_kept kept m closes)) (state.settled m l below))
          (λ (above : k ≤ m). let e : m ≡ k = omega arith in rw e (inl new)) (cases_lt m k);
    }
  where
    rows_apart : IsSplit net rows columns → (p i : ℕ) → p < length rows → i < length rows → p ≢ i → number rows p ≢ number rows i
    rows_apart split p i l m ne e =
        ⊎_elim (λ (below : p < i). split.rows_differ p i below m e) (λ (above : i ≤ p). split.rows_differ i p (omega arith) l (sym e)) (cases_lt p i)

    there : (taken : List ℕ) → ((l : ℕ) → HasArc rows l → n ≤ l → HasArc (set rows r k) l) → HasArc (set rows r k) k → n ≤ k
        → ((i : ℕ) → i < length taken → (n ≤ number taken i) × (number taken i < k) × HasArc rows (number taken i))
        → (i : ℕ) → i < length (k ∷ taken) → (n ≤ number (k ∷ taken) i) × (number (k ∷ taken) i < k + 1) × HasArc (set rows r k) (number (k ∷ taken) i)
    there taken kept new model_arc all zero l = (model_arc, omega arith, new)
    there taken kept new model_arc all (suc i) l = let t = all i (omega arith) in (t.0, omega (arith, t.1), kept (number taken i) t.2 t.0)

    differ : (taken : List ℕ) → ((i : ℕ) → i < length taken → number taken i < k) → ((i m : ℕ) → i < m → m < length taken → number taken i ≢ number taken m)
        → (i m : ℕ) → i < m → m < length (k ∷ taken) → number (k ∷ taken) i ≢ number (k ∷ taken) m
    differ taken below all zero zero l h = absurd (omega arith)
    differ taken below all zero (suc m) l h = λ e. let b = below m (omega arith) in omega arith
    differ taken below all (suc i) zero l h = absurd (omega arith)
    differ taken below all (suc i) (suc m) l h = all i m (omega arith) (omega arith)

    closes_kept : ((l : ℕ) → HasArc rows l → n ≤ l → HasArc (set rows r k) l) → (m : ℕ) → Closes net n rows m → Closes net n (set rows r k) m
    closes_kept kept m closes = record {
      walk = closes.walk;
      circuit = closes.circuit;
      over = λ l h. ⊎_elim (λ (e : arc_of closes.walk l ≡ m). inl e)
          (λ (b : (n ≤ arc_of closes.walk l) × (arc_of closes.walk l < m) × HasArc rows (arc_of closes.walk l)). inr (b.0, b.1, kept (arc_of closes.walk l) b.2 b.0))
          (closes.over l h);
    }
