-- Where `lead` starts: no model arc is in the tree, and each node is the first of its own. What one arc does, and where `lead`
-- ends: each model arc is in the tree or closes a circuit with earlier ones that are, and the ground arcs in the tree are those
-- of the first nodes.
use Rattle.std.proofs.Common.{◌≡◌, ◌≢◌, ◌⊎◌, ◌↔◌, ℕ, ◌+◌, ◌-◌, ◌<◌, ◌≤◌, ℤ, pos, List, [], length, set, refl, sym, ap, ◌∙◌, ⊎_elim, inl, inr, arith}
use Rattle.std.proofs.lemmas.Int.{ints}
use Rattle.std.proofs.lemmas.Bool.{cases_eq}
use Rattle.theory.specs.Network.{Network, IsNetwork, tail, head}
use Rattle.theory.specs.Tucker.{HasArc}
use Rattle.tucker_tableau.specs.Tableau.{number, IsLawful}
use Rattle.tucker_tableau.specs.Lead.{IsModelNetwork, arc_of, Closes, IsLed, IsLedTo}
use Rattle.tucker_tableau.proofs.Paths.{path, Each-at, leads-way, level-leads}
use Rattle.tucker_tableau.proofs.Bridge.{is_tree}
use Rattle.tucker_tableau.proofs.Leading.{ground_entry, mark-hit, mark-miss, taken_over, led-passed, led-taken}

-- ---- the start

pub led-none : (net : Network) (rows : List ℕ) → ((q : ℕ) → HasArc rows q ↔ (q < length rows)) → IsLedTo net (length rows) rows (length rows)
led-none net rows ground =
    let below : (i : ℕ) → i < length rows → number rows i < length rows = λ i l. (ground (number rows i)).0 (record { place = i; there = l; is = refl }) in
    record {
      least = λ v. v;
      taken = [];
      lowers = λ v. omega arith;
      again = λ v. refl;
      not_ground = λ v one. one;
      level = λ i l model. absurd (let b = below i l in omega arith);
      firsts = λ v l. (λ h. refl, λ e. (ground v).1 l);
      before = λ i l. inl (below i l);
      joined = λ v w e. e;
      taken_there = λ i l. absurd (omega arith);
      taken_differ = λ i m l h. absurd (omega arith);
      settled = λ m l h. absurd (omega arith);
    }

-- ---- one arc

-- the ground arc of the first node of an end of arc k, which passes in the column unless the other end has the same first node
first_passes : (net : Network) (n : ℕ) (rows columns : List ℕ) (a : ℕ → ℕ → ℤ) (k s v : ℕ) → IsModelNetwork net n → IsLawful net rows columns a
    → (state : IsLedTo net n rows k) → s < length columns → 1 ≤ v → v < n + 1
    → (h : HasArc rows (state.least v - 1)) × (number rows h.place < n) × (number rows h.place + 1 ≡ state.least v)
first_passes net n rows columns a k s v model lawful state column one there =
    let f = state.least in
    let l = state.lowers v in
    let p = state.not_ground v one in
    let up : (f v - 1) + 1 ≡ f v = omega arith in
    let first : f ((f v - 1) + 1) ≡ (f v - 1) + 1 = ap f up ∙ state.again v ∙ sym up in
    let has = (state.firsts (f v - 1) (omega arith)).1 first in
    let is = has.is in
    (has, omega arith, omega arith)

passes_or_same : (net : Network) (n : ℕ) (rows columns : List ℕ) (a : ℕ → ℕ → ℤ) (k s i : ℕ) → IsModelNetwork net n → IsLawful net rows columns a
    → (state : IsLedTo net n rows k) → i < length rows → number rows i < n → s < length columns
    → ((number rows i + 1 ≡ state.least (head net (number columns s))) ⊎ (number rows i + 1 ≡ state.least (tail net (number columns s))))
    → state.least (head net (number columns s)) ≢ state.least (tail net (number columns s)) → a i s ≢ pos 0
passes_or_same net n rows columns a k s i model lawful state row ground column which apart none =
    let c = number columns s in
    let h = state.least (head net c) in
    let t = state.least (tail net c) in
    let m = number rows i + 1 in
    let law = ground_entry net n rows columns a k i s model lawful.tension_law lawful.split state row ground column in
    ⊎_elim
    (λ (at_head : m ≡ h). let p = mark-hit h m (sym at_head) in let q = mark-miss t m (λ e. apart (sym at_head ∙ sym e)) in omega (arith, ints))
    (λ (at_tail : m ≡ t). let p = mark-hit t m (sym at_tail) in let q = mark-miss h m (λ e. apart (e ∙ at_tail)) in omega (arith, ints))
    which

-- a ground row that passes is that of the first node of an end
passes_first : (net : Network) (n : ℕ) (rows columns : List ℕ) (a : ℕ → ℕ → ℤ) (k s i : ℕ) → IsModelNetwork net n → IsLawful net rows columns a
    → (state : IsLedTo net n rows k) → i < length rows → number rows i < n → s < length columns → a i s ≢ pos 0
    → ((number rows i + 1 ≡ state.least (head net (number columns s))) × (number rows i + 1 ≢ state.least (tail net (number columns s))))
    ⊎ ((number rows i + 1 ≢ state.least (head net (number columns s))) × (number rows i + 1 ≡ state.least (tail net (number columns s))))
passes_first net n rows columns a k s i model lawful state row ground column passes =
    let c = number columns s in
    let h = state.least (head net c) in
    let t = state.least (tail net c) in
    let m = number rows i + 1 in
    let law = ground_entry net n rows columns a k i s model lawful.tension_law lawful.split state row ground column in
    ⊎_elim
    (λ (at_head : h ≡ m).
    ⊎_elim
    (λ (at_tail : t ≡ m). absurd (passes (let p = mark-hit h m at_head in let q = mark-hit t m at_tail in omega (arith, ints))))
    (λ (off_tail : t ≡ m → ⊥). inl (sym at_head, λ e. off_tail (sym e))) (cases_eq t m))
    (λ (off_head : h ≡ m → ⊥).
    ⊎_elim
    (λ (at_tail : t ≡ m). inr (λ e. off_head (sym e), sym at_tail))
    (λ (off_tail : t ≡ m → ⊥). absurd (passes (let p = mark-miss h m off_head in let q = mark-miss t m off_tail in omega (arith, ints)))) (cases_eq t m))
    (cases_eq h m)

-- no ground row passes
pub led-no_ground : (net : Network) (n : ℕ) (rows columns : List ℕ) (a : ℕ → ℕ → ℤ) (s : ℕ) → IsNetwork net → IsModelNetwork net n → IsLawful net rows columns a
    → n ≤ number columns s → (state : IsLedTo net n rows (number columns s)) → s < length columns
    → ((i : ℕ) → i < length rows → number rows i < n → a i s ≡ pos 0) → IsLedTo net n rows (number columns s + 1)
led-no_ground net n rows columns a s good model lawful model_arc state column none =
    let k = number columns s in
    let there = lawful.split.columns_there s column in
    let f = state.least in
    led-passed net n rows k model_arc state
    (⊎_elim (λ (e : f (head net k) ≡ f (tail net k)). e)
    (λ (ne : f (head net k) ≡ f (tail net k) → ⊥).
    let first = first_passes net n rows columns a k s (head net k) model lawful state column (model.model_heads k model_arc there) (let b = good.heads k there in let c = model.nodes in omega arith) in
    absurd (passes_or_same net n rows columns a k s first.0.place model lawful state first.0.there first.1 column (inl first.2) ne (none first.0.place first.0.there first.1)))
    (cases_eq (f (head net k)) (f (tail net k))))

-- the greatest ground row that passes leaves the tree
pub led-greatest : (net : Network) (n : ℕ) (rows columns : List ℕ) (a : ℕ → ℕ → ℤ) (r s : ℕ) → IsNetwork net → IsModelNetwork net n → IsLawful net rows columns a
    → n ≤ number columns s → (state : IsLedTo net n rows (number columns s)) → s < length columns
    → r < length rows → number rows r < n → a r s ≢ pos 0
    → ((i : ℕ) → i < length rows → number rows i < n → a i s ≢ pos 0 → number rows i ≤ number rows r) → IsLedTo net n (set rows r (number columns s)) (number columns s + 1)
led-greatest net n rows columns a r s good model lawful model_arc state column row ground passes greatest =
    let k = number columns s in
    let there = lawful.split.columns_there s column in
    let f = state.least in
    let t = tail net k in
    let h = head net k in
    let m = number rows r + 1 in
    let h_one = model.model_heads k model_arc there in
    let t_one = model.model_tails k model_arc there in
    let h_there : h < n + 1 = let b = good.heads k there in let c = model.nodes in omega arith in
    let t_there : t < n + 1 = let b = good.tails k there in let c = model.nodes in omega arith in
    let low_of : (v : ℕ) → 1 ≤ v → v < n + 1 → f v ≢ m → (f h ≢ f t) → (f v ≡ f h) ⊎ (f v ≡ f t) → f v < m = λ v one bound off apart which. (
    let first = first_passes net n rows columns a k s v model lawful state column one bound in
    let p = passes_or_same net n rows columns a k s first.0.place model lawful state first.0.there first.1 column
    (⊎_elim (λ (e : f v ≡ f h). inl (first.2 ∙ e)) (λ (e : f v ≡ f t). inr (first.2 ∙ e)) which) apart in
    let g = greatest first.0.place first.0.there first.1 p in
    let e = first.2 in
    below (number rows first.0.place) (number rows r) (f v) g e off) in
    ⊎_elim
    (λ (e : (m ≡ f h) × (m ≢ f t)).
    led-taken net n rows columns k r (f t) m lawful.split model_arc state row ground refl (record {
      above_ground = state.not_ground t t_one;
      order = low_of t t_one t_there (λ same. e.1 (sym same)) (λ same. e.1 (e.0 ∙ same)) (inr refl);
      low_first = state.again t;
      high_first = ap f e.0 ∙ state.again h ∙ sym e.0;
      ends = inr (refl, sym e.0);
    }))
    (λ (e : (m ≢ f h) × (m ≡ f t)).
    led-taken net n rows columns k r (f h) m lawful.split model_arc state row ground refl (record {
      above_ground = state.not_ground h h_one;
      order = low_of h h_one h_there (λ same. e.0 (sym same)) (λ same. e.0 (e.1 ∙ sym same)) (inl refl);
      low_first = state.again h;
      high_first = ap f e.1 ∙ state.again t ∙ sym e.1;
      ends = inl (sym e.1, refl);
    }))
    (passes_first net n rows columns a k s r model lawful state row ground column passes)
  where
    below : (p r v : ℕ) → p ≤ r → p + 1 ≡ v → v ≢ r + 1 → v < r + 1
    below p r v l e ne = omega arith

-- ---- the end

pub led-all : (net : Network) (n : ℕ) (rows columns : List ℕ) (a : ℕ → ℕ → ℤ) → IsModelNetwork net n → IsLawful net rows columns a
    → IsLedTo net n rows (length net.arcs) → IsLed net n rows
led-all net n rows columns a model lawful state =
    let f = state.least in
    record {
      arcs = λ k l h. (
        λ has closes. (is_tree net rows columns a lawful).no_circuit closes.walk closes.circuit
            (λ m b. ⊎_elim (λ (e : arc_of closes.walk m ≡ k). record { place = has.place; there = has.there; is = has.is ∙ sym e })
            (λ (o : (n ≤ arc_of closes.walk m) × (arc_of closes.walk m < k) × HasArc rows (arc_of closes.walk m)). o.2) (closes.over m b)),
        λ open_. ⊎_elim (λ (has : HasArc rows k). has) (λ (closes : Closes net n rows k). absurd (open_ closes)) (state.settled k l h),
      );
      ground = λ v l. (
        λ has w below connects. (
            let first = (state.firsts v l).0 has in
            let same = level-leads net f (w + 1) (v + 1) connects.walk connects.leads (λ m b. let o = connects.over m b in level_over o.1 o.0) in
            let lower = state.lowers (w + 1) in
            omega arith),
        λ alone. ⊎_elim
            (λ (e : f (v + 1) ≡ v + 1). (state.firsts v l).1 e)
            (λ (ne : f (v + 1) ≡ v + 1 → ⊥).
            let lower = state.lowers (v + 1) in
            let above = state.not_ground (v + 1) (omega arith) in
            let w = f (v + 1) - 1 in
            let up : w + 1 ≡ f (v + 1) = omega arith in
            let p = path net state.taken (w + 1) (v + 1) state.taken_differ (state.joined (w + 1) (v + 1) (ap f up ∙ state.again (v + 1))) in
            let over = taken_over net n rows (length net.arcs) state p.0 (Each-at (λ s. HasArc state.taken s.arc.0) p.0 p.1.over) in
            absurd (alone w (omega arith) (record { walk = p.0; leads = leads-way net (w + 1) (v + 1) p.0 p.1.way; over = λ m b. (let o = over m b in (o.0, o.2)) })))
            (cases_eq (f (v + 1)) (v + 1)),
      );
    }
  where
    level_over : {c : ℕ} → HasArc rows c → n ≤ c → state.least (head net c) ≡ state.least (tail net c)
    level_over {c} h model_arc = rw (← h.is) (state.level h.place h.there (rw h.is model_arc))
