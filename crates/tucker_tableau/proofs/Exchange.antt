-- A pivot keeps the laws. The two arcs change places, so each arc is still a row or a column, once. The laws are those of sums
-- in Pivots. A potential that rises along no new row's arc rises along none of the old ones either: on the column's arc the
-- tension law leaves one product, p times the rise along the arc that left, and p * p = 1.
use Rattle.std.proofs.Common.{◌≡◌, ◌≢◌, ℕ, ◌<◌, ◌≤◌, ℤ, pos, ◌-ℤ◌, ◌*ℤ◌, neg_ℤ, List, length, set, get_or, refl, sym, ap, ap₂, ◌∙◌, ⊎_elim, inl, inr, eq-eqb, length-set, get_or-set_same, get_or-set_other, arith}
use Rattle.std.proofs.lemmas.Bool.{cases_eq, cases_lt, ne_eqb}
use Rattle.std.proofs.lemmas.List.{same_lists, get_or_default}
use Rattle.theory.specs.Sums.{sum_below}
use Rattle.theory.specs.Network.{Network}
use Rattle.theory.specs.Conserved.{tension}
use Rattle.theory.specs.Tucker.{HasArc}
use Rattle.theory.proofs.Rings.{rings}
use Rattle.theory.proofs.SumsBelow.{sum_below-same}
use Rattle.tucker_tableau.specs.Tableau.{number, FlowLaw, TensionLaw, Spans, IsSplit, IsLawful}
use Rattle.tucker_tableau.specs.Pivoted.{pivoted}
use Rattle.tucker_tableau.proofs.Pivots.{square_out, flow_entering, flow_other, tension_leaving, tension_other, tension_alone}

-- ---- the entries

pub pivoted-there : (a : ℕ → ℕ → ℤ) (r s i j : ℕ) → i ≡ r → j ≡ s → pivoted a r s i j ≡ a r s
pivoted-there a r s i j e f = rw (eq-eqb i r e, eq-eqb j s f)

pub pivoted-row : (a : ℕ → ℕ → ℤ) (r s i j : ℕ) → i ≡ r → j ≢ s → pivoted a r s i j ≡ neg_ℤ (a r s *ℤ a r j)
pivoted-row a r s i j e f = rw (eq-eqb i r e, ne_eqb j s f)

pub pivoted-column : (a : ℕ → ℕ → ℤ) (r s i j : ℕ) → i ≢ r → j ≡ s → pivoted a r s i j ≡ a r s *ℤ a i s
pivoted-column a r s i j e f = rw (ne_eqb i r e, eq-eqb j s f)

pub pivoted-other : (a : ℕ → ℕ → ℤ) (r s i j : ℕ) → i ≢ r → j ≢ s → pivoted a r s i j ≡ a i j -ℤ (a r s *ℤ a i s) *ℤ a r j
pivoted-other a r s i j e f = rw (ne_eqb i r e, ne_eqb j s f)

-- ---- the arcs

pub number-same : (arcs : List ℕ) (r c i : ℕ) → r < length arcs → i ≡ r → number (set arcs r c) i ≡ c
number-same arcs r c i there e = rw e (get_or-set_same arcs r c 0 there)

pub number-other : (arcs : List ℕ) (r c i : ℕ) → i ≢ r → number (set arcs r c) i ≡ number arcs i
number-other arcs r c i ne = get_or-set_other arcs r i c 0 ne

-- what holds of the new arc and of each other one holds of all
each_set : (arcs : List ℕ) (r c : ℕ) (P : ℕ → ℕ → Type 0) → r < length arcs → P r c
    → ((i : ℕ) → i < length arcs → i ≢ r → P i (number arcs i)) → (i : ℕ) → i < length (set arcs r c) → P i (number (set arcs r c) i)
each_set arcs r c P there here others i l =
    let l' : i < length arcs = rw (length-set arcs r c) at l in
    ⊎_elim
    (λ (e : i ≡ r). let h : P i c = rw e here in rw (number-same arcs r c i there e) h)
    (λ (ne : i ≡ r → ⊥). rw (number-other arcs r c i ne) (others i l' ne))
    (cases_eq i r)

differ_set : (arcs : List ℕ) (r c : ℕ) → r < length arcs → ((i k : ℕ) → i < k → k < length arcs → number arcs i ≢ number arcs k)
    → ((i : ℕ) → i < length arcs → number arcs i ≢ c) → (i k : ℕ) → i < k → k < length (set arcs r c) → number (set arcs r c) i ≢ number (set arcs r c) k
differ_set arcs r c there differ new i k l m =
    let m' : k < length arcs = rw (length-set arcs r c) at m in
    ⊎_elim
    (λ (e : i ≡ r).
    let k_other : k ≢ r = (λ f. omega arith) in
    rw (number-same arcs r c i there e, number-other arcs r c k k_other) (λ same. new k m' (sym same)))
    (λ (ne : i ≡ r → ⊥).
    ⊎_elim
    (λ (f : k ≡ r). rw (number-other arcs r c i ne, number-same arcs r c k there f) (new i (omega arith)))
    (λ (nf : k ≡ r → ⊥). rw (number-other arcs r c i ne, number-other arcs r c k nf) (differ i k l m'))
    (cases_eq k r))
    (cases_eq i r)

has_new : (arcs : List ℕ) (r c k : ℕ) → r < length arcs → c ≡ k → HasArc (set arcs r c) k
has_new arcs r c k there e =
    record { place = r; there = rw (length-set arcs r c) there; is = get_or-set_same arcs r c 0 there ∙ e }

pub has_kept : (arcs : List ℕ) (r c k : ℕ) → (h : HasArc arcs k) → h.place ≢ r → HasArc (set arcs r c) k
has_kept arcs r c k h ne =
    record { place = h.place; there = rw (length-set arcs r c) h.there; is = get_or-set_other arcs r h.place c 0 ne ∙ h.is }

pub split_pivoted : (net : Network) (rows columns : List ℕ) (r s : ℕ) → IsSplit net rows columns → r < length rows → s < length columns
    → IsSplit net (set rows r (number columns s)) (set columns s (number rows r))
split_pivoted net rows columns r s split row column =
    let out = number rows r in
    let into = number columns s in
    let row_among : (i : ℕ) → i < length rows → number rows i ≢ into = λ i l. split.apart i s l column in
    let column_among : (j : ℕ) → j < length columns → number columns j ≢ out = λ j l e. split.apart r j row l (sym e) in
    record {
      count = rw (length-set rows r into) split.count;
      rows_there = each_set rows r into (λ i k. k < length net.arcs) row (split.columns_there s column) (λ i l ne. split.rows_there i l);
      columns_there = each_set columns s out (λ j k. k < length net.arcs) column (split.rows_there r row) (λ j l ne. split.columns_there j l);
      rows_differ = differ_set rows r into row split.rows_differ row_among;
      columns_differ = differ_set columns s out column split.columns_differ column_among;
      apart = λ i j l m. each_set rows r into (λ i k. k ≢ number (set columns s out) j) row
          (each_set columns s out (λ j k. into ≢ k) column (λ e. row_among r row (sym e)) (λ j l ne e. differ_either columns split.columns_differ s j column l (λ f. ne (sym f)) e) j m)
          (λ i l ne. each_set columns s out (λ j k. number rows i ≢ k) column (differ_either rows split.rows_differ i r l row ne) (λ j l2 ne2. split.apart i j l l2) j m)
          i l;
      size = rw (length-set rows r into, length-set columns s out) split.size;
      every = λ k l. ⊎_elim
          (λ (h : HasArc rows k).
          ⊎_elim (λ (e : h.place ≡ r). inr (has_new columns s out k column (ap (number rows) (sym e) ∙ h.is)))
          (λ (ne : h.place ≡ r → ⊥). inl (has_kept rows r into k h ne)) (cases_eq h.place r))
          (λ (h : HasArc columns k).
          ⊎_elim (λ (e : h.place ≡ s). inl (has_new rows r into k row (ap (number columns) (sym e) ∙ h.is)))
          (λ (ne : h.place ≡ s → ⊥). inr (has_kept columns s out k h ne)) (cases_eq h.place s))
          (split.every k l);
    }
  where
    differ_either : (arcs : List ℕ) → ((i k : ℕ) → i < k → k < length arcs → number arcs i ≢ number arcs k)
        → (i k : ℕ) → i < length arcs → k < length arcs → i ≢ k → number arcs i ≢ number arcs k
    differ_either arcs differ i k l m ne e =
        ⊎_elim (λ (below : i < k). differ i k below m e) (λ (above : k ≤ i). differ k i (omega arith) l (sym e)) (cases_lt i k)

-- ---- the laws

flow_law_pivoted : (net : Network) (rows columns : List ℕ) (a : ℕ → ℕ → ℤ) (r s : ℕ) → FlowLaw net rows columns a → r < length rows → s < length columns
    → a r s *ℤ a r s ≡ pos 1 → FlowLaw net (set rows r (number columns s)) (set columns s (number rows r)) (pivoted a r s)
flow_law_pivoted net rows columns a r s law row column square x conserved i l =
    let out = number rows r in
    let into = number columns s in
    let m = length columns in
    let old = λ (j : ℕ). x (number columns j) in
    let new = λ (j : ℕ). x (number (set columns s out) j) in
    let l' : i < length rows = rw (length-set rows r into) at l in
    let here : new s ≡ x out = ap x (number-same columns s out s column refl) in
    let others : (k : ℕ) → k < m → k ≢ s → new k ≡ old k = λ k h ne. ap x (number-other columns s out k ne) in
    let stated : x (number (set rows r into) i) ≡ sum_below m (λ j. pivoted a r s i j *ℤ new j) =
    ⊎_elim
    (λ (e : i ≡ r).
    ap x (number-same rows r into i row e)
    ∙ flow_entering m s (a r) old (pivoted a r s i) new (a r s) (x out) (x into) column square refl refl
    (pivoted-there a r s i s e refl) here (λ k h ne. pivoted-row a r s i k e ne) others (law x conserved r row))
    (λ (ne : i ≡ r → ⊥).
    ap x (number-other rows r into i ne)
    ∙ flow_other m s (a i) (a r) old (pivoted a r s i) new (a r s) (a i s) (a r s *ℤ a i s) (x (number rows i)) (x out) (x into) column square refl refl refl refl
    (pivoted-column a r s i s ne refl) here (λ k h nk. pivoted-other a r s i k ne nk) others (law x conserved r row) (law x conserved i l'))
    (cases_eq i r) in
    stated ∙ ap (λ n. sum_below n (λ j. pivoted a r s i j *ℤ new j)) (sym (length-set columns s out))

tension_law_pivoted : (net : Network) (rows columns : List ℕ) (a : ℕ → ℕ → ℤ) (r s : ℕ) → TensionLaw net rows columns a → r < length rows → s < length columns
    → a r s *ℤ a r s ≡ pos 1 → TensionLaw net (set rows r (number columns s)) (set columns s (number rows r)) (pivoted a r s)
tension_law_pivoted net rows columns a r s law row column square u j l =
    let out = number rows r in
    let into = number columns s in
    let n = length rows in
    let v = tension net u in
    let old = λ (i : ℕ). v (number rows i) in
    let new = λ (i : ℕ). v (number (set rows r into) i) in
    let l' : j < length columns = rw (length-set columns s out) at l in
    let here : new r ≡ v into = ap v (number-same rows r into r row refl) in
    let others : (k : ℕ) → k < n → k ≢ r → new k ≡ old k = λ k h ne. ap v (number-other rows r into k ne) in
    let stated : v (number (set columns s out) j) ≡ neg_ℤ (sum_below n (λ i. pivoted a r s i j *ℤ new i)) =
    ⊎_elim
    (λ (e : j ≡ s).
    ap v (number-same columns s out j column e)
    ∙ tension_leaving n r (λ i. a i s) old (λ i. pivoted a r s i j) new (a r s) (v into) (v out) row square refl refl
    (pivoted-there a r s r j refl e) here (λ k h ne. pivoted-column a r s k j ne e) others (law u s column))
    (λ (ne : j ≡ s → ⊥).
    ap v (number-other columns s out j ne)
    ∙ tension_other n r (λ i. a i j) (λ i. a i s) old (λ i. pivoted a r s i j) new (a r s) (a r j) (a r s *ℤ a r j) (v (number columns j)) (v into) (v out) row square refl refl refl refl
    (pivoted-row a r s r j refl ne) here (λ k h nk. pivoted-other a r s k j nk ne) others (law u s column) (law u j l'))
    (cases_eq j s) in
    stated ∙ ap (λ k. neg_ℤ (sum_below k (λ i. pivoted a r s i j *ℤ new i))) (sym (length-set rows r into))

nothing_left : (p v : ℤ) → p *ℤ p ≡ pos 1 → p *ℤ v ≡ pos 0 → v ≡ pos 0
nothing_left p v square none =
    let h = square_out p v square in
    let z : p *ℤ (p *ℤ v) ≡ p *ℤ pos 0 = ap (λ w. p *ℤ w) none in
    omega (arith, rings)

spans_pivoted : (net : Network) (rows columns : List ℕ) (a : ℕ → ℕ → ℤ) (r s : ℕ) → TensionLaw net rows columns a → Spans net rows → r < length rows → s < length columns
    → a r s *ℤ a r s ≡ pos 1 → Spans net (set rows r (number columns s))
spans_pivoted net rows columns a r s law spans row column square u level =
    let into = number columns s in
    let others : (k : ℕ) → k < length rows → k ≢ r → tension net u (number rows k) ≡ pos 0 =
    λ k h ne. ap (tension net u) (sym (number-other rows r into k ne)) ∙ level k (rw (length-set rows r into) h) in
    let entering : tension net u into ≡ pos 0 =
    ap (tension net u) (sym (number-same rows r into r row refl)) ∙ level r (rw (length-set rows r into) row) in
    let alone = tension_alone (length rows) r (λ i. a i s) (λ i. tension net u (number rows i)) row others in
    let law_s = law u s column in
    let leaving : tension net u (number rows r) ≡ pos 0 =
    nothing_left (a r s) (tension net u (number rows r)) square (only_zero (tension net u into) (sum_below (length rows) (λ i. a i s *ℤ tension net u (number rows i))) (a r s *ℤ tension net u (number rows r)) law_s entering alone) in
    spans u (λ i l. ⊎_elim (λ (e : i ≡ r). ap (λ k. tension net u (number rows k)) e ∙ leaving) (λ (ne : i ≡ r → ⊥). others i l ne) (cases_eq i r))
  where
    only_zero : (v S w : ℤ) → v ≡ neg_ℤ S → v ≡ pos 0 → S ≡ w → w ≡ pos 0
    only_zero v S w e f g = omega (arith, rings)

pub lawful_pivoted : (net : Network) (rows columns : List ℕ) (a : ℕ → ℕ → ℤ) (r s : ℕ) → IsLawful net rows columns a → r < length rows → s < length columns
    → a r s *ℤ a r s ≡ pos 1 → IsLawful net (set rows r (number columns s)) (set columns s (number rows r)) (pivoted a r s)
lawful_pivoted net rows columns a r s lawful row column square =
    record {
      split = split_pivoted net rows columns r s lawful.split row column;
      spans = spans_pivoted net rows columns a r s lawful.tension_law lawful.spans row column square;
      flow_law = flow_law_pivoted net rows columns a r s lawful.flow_law row column square;
      tension_law = tension_law_pivoted net rows columns a r s lawful.tension_law row column square;
    }

-- the laws speak of the entries at places that are there
pub lawful_same : (net : Network) (rows columns : List ℕ) (a b : ℕ → ℕ → ℤ)
    → ((i j : ℕ) → i < length rows → j < length columns → b i j ≡ a i j) → IsLawful net rows columns a → IsLawful net rows columns b
lawful_same net rows columns a b same lawful =
    record {
      split = lawful.split;
      spans = lawful.spans;
      flow_law = λ x conserved i l. lawful.flow_law x conserved i l
          ∙ sum_below-same (length columns) (λ j. a i j *ℤ x (number columns j)) (λ j. b i j *ℤ x (number columns j)) (λ j m. ap (λ w. w *ℤ x (number columns j)) (sym (same i j l m)));
      tension_law = λ u j m. lawful.tension_law u j m
          ∙ ap neg_ℤ (sum_below-same (length rows) (λ i. a i j *ℤ tension net u (number rows i)) (λ i. b i j *ℤ tension net u (number rows i)) (λ i l. ap (λ w. w *ℤ tension net u (number rows i)) (sym (same i j l m))));
    }

-- ---- the same pivot again

twice : (p q e : ℤ) (x : ℤ) → p *ℤ p ≡ pos 1 → (x -ℤ (p *ℤ e) *ℤ q) -ℤ (p *ℤ (p *ℤ e)) *ℤ neg_ℤ (p *ℤ q) ≡ x
twice p q e x square =
    let back : p *ℤ (p *ℤ e) ≡ e = square_out p e square in
    let turned : (p *ℤ e) *ℤ q ≡ e *ℤ (p *ℤ q) = swap p e q in
    ap (λ m. (x -ℤ (p *ℤ e) *ℤ q) -ℤ m *ℤ neg_ℤ (p *ℤ q)) back ∙ ap (λ m. (x -ℤ m) -ℤ e *ℤ neg_ℤ (p *ℤ q)) turned ∙ same e (p *ℤ q) x
  where
    swap : (p e q : ℤ) → (p *ℤ e) *ℤ q ≡ e *ℤ (p *ℤ q)
    swap p e q = omega (arith, rings)

    same : (e w x : ℤ) → (x -ℤ e *ℤ w) -ℤ e *ℤ neg_ℤ w ≡ x
    same e w x = omega (arith, rings)

twice_row : (p q : ℤ) → p *ℤ p ≡ pos 1 → neg_ℤ (p *ℤ neg_ℤ (p *ℤ q)) ≡ q
twice_row p q square = let back : p *ℤ (p *ℤ q) ≡ q = square_out p q square in omega (arith, rings)

pub pivoted-twice : (a b : ℕ → ℕ → ℤ) (r s n m : ℕ) → a r s *ℤ a r s ≡ pos 1 → r < n → s < m
    → ((i j : ℕ) → i < n → j < m → b i j ≡ pivoted a r s i j) → (i j : ℕ) → i < n → j < m → pivoted b r s i j ≡ a i j
pivoted-twice a b r s n m square row column is i j l k =
    let there : b r s ≡ a r s = is r s row column ∙ pivoted-there a r s r s refl refl in
    ⊎_elim
    (λ (e : i ≡ r).
    ⊎_elim
    (λ (f : j ≡ s). pivoted-there b r s i j e f ∙ there ∙ ap₂ a (sym e) (sym f))
    (λ (nf : j ≡ s → ⊥).
    pivoted-row b r s i j e nf ∙ ap₂ (λ v w. neg_ℤ (v *ℤ w)) there (is r j row k ∙ pivoted-row a r s r j refl nf) ∙ twice_row (a r s) (a r j) square ∙ ap (λ n. a n j) (sym e))
    (cases_eq j s))
    (λ (ne : i ≡ r → ⊥).
    let column_is : b i s ≡ a r s *ℤ a i s = is i s l column ∙ pivoted-column a r s i s ne refl in
    ⊎_elim
    (λ (f : j ≡ s). pivoted-column b r s i j ne f ∙ ap₂ (λ v w. v *ℤ w) there column_is ∙ square_out (a r s) (a i s) square ∙ ap (a i) (sym f))
    (λ (nf : j ≡ s → ⊥).
    pivoted-other b r s i j ne nf
    ∙ ap₂ (λ v w. v -ℤ w) (is i j l k ∙ pivoted-other a r s i j ne nf)
    (ap₂ (λ v w. v *ℤ w) (ap₂ (λ v w. v *ℤ w) there column_is) (is r j row k ∙ pivoted-row a r s r j refl nf))
    ∙ twice (a r s) (a r j) (a i s) (a i j) square)
    (cases_eq j s))
    (cases_eq i r)

-- an element that is put back where it was
pub set-back : (arcs : List ℕ) (r c : ℕ) → r < length arcs → set (set arcs r c) r (number arcs r) ≡ arcs
set-back arcs r c there =
    same_lists (set (set arcs r c) r (number arcs r)) arcs (length-set (set arcs r c) r (number arcs r) ∙ length-set arcs r c)
    (λ k d l. ⊎_elim
    (λ (e : k ≡ r).
    let bound : r < length (set arcs r c) = rw (length-set arcs r c) there in
    ap (λ n. get_or (set (set arcs r c) r (number arcs r)) n d) e ∙ get_or-set_same (set arcs r c) r (number arcs r) d bound
    ∙ get_or_default arcs r 0 d there ∙ ap (λ n. get_or arcs n d) (sym e))
    (λ (ne : k ≡ r → ⊥). get_or-set_other (set arcs r c) r k (number arcs r) d ne ∙ get_or-set_other arcs r k c d ne)
    (cases_eq k r))
