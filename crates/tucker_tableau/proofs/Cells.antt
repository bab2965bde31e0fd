-- Places of a list that has rows: two places are one exactly where their rows and columns are. What a write changes.
use Rattle.std.proofs.Common.{◌≡◌, ◌≢◌, ℕ, zero, suc, ◌-◌, ◌+◌, ◌*◌, ◌<◌, ◌≤◌, ◌^◌, ℤ, pos, ◌-ℤ◌, ◌*ℤ◌, neg_ℤ, List, length, set, refl, sym, ap, ap₂, ◌∙◌, ⊎_elim, eq-eqb, length-set, get_or-set_same, get_or-set_other, FitsSigned, to_z, of_z, arith}
use Rattle.std.specs.Int.{w8}
use Rattle.std.proofs.lemmas.Int.{to_z-of_z, fits_signed_from_abs}
use Rattle.std.proofs.lemmas.Bool.{cases_eq, ne_eqb}
use Rattle.std.proofs.lemmas.Nat.{same_from_place}
use Rattle.theory.specs.Limits.{IsWithin}
use Rattle.theory.proofs.Rings.{rings}
use Rattle.theory.proofs.Bounds.{within_product, within_difference, abs_within}
use Rattle.tucker_tableau.specs.Table.{cell}
use Rattle.tucker_tableau.specs.Cells.{IsUnit, AreUnits, IsLessRow, IsScaledRow, IsRowPivoted, AreRowsPivoted, IsMarked}
use Rattle.tucker_tableau.specs.Pivoted.{pivoted}
use Rattle.tucker_tableau.proofs.Exchange.{pivoted-there, pivoted-row, pivoted-column, pivoted-other}

pub cell-set_same : (table : List ℤ) (width i j : ℕ) (z : ℤ) → i * width + width ≤ length table → j < width → cell (set table (i * width + j) z) width i j ≡ z
cell-set_same table width i j z fits l = get_or-set_same table (i * width + j) z (pos 0) (omega arith)

pub cell-set_other : (table : List ℤ) (width i j k m : ℕ) (z : ℤ) → j < width → m < width → (k ≡ i → m ≡ j → ⊥) → cell (set table (i * width + j) z) width k m ≡ cell table width k m
cell-set_other table width i j k m z l h apart =
    get_or-set_other table (i * width + j) (k * width + m) z (pos 0) (λ e. let s = same_from_place k m i j width h l e in apart s.0 s.1)

pub within_fits8 : (n : ℕ) (a : ℤ) → IsWithin n a → n < 2 ^ 7 → FitsSigned w8 a
within_fits8 n a h small = fits_signed_from_abs w8 a (let e = abs_within n a h in omega arith)

pub unit_product : (a b : ℤ) → IsUnit a → IsUnit b → IsUnit (a *ℤ b)
unit_product a b h k = within_product 1 1 a b h k

pub unit_fits : (a : ℤ) → IsUnit a → FitsSigned w8 a
unit_fits a h = within_fits8 1 a h (omega arith)

pub less_fits : (x f y : ℤ) → IsUnit x → IsUnit f → IsUnit y → FitsSigned w8 (x -ℤ f *ℤ y)
less_fits x f y h k m = within_fits8 2 (x -ℤ f *ℤ y) (within_difference 1 1 x (f *ℤ y) h (unit_product f y k m)) (omega arith)

pub read8 : (z : ℤ) → FitsSigned w8 z → to_z w8 (of_z w8 z) ≡ z
read8 z fits = to_z-of_z w8 z fits

-- the answer of `less`, `times` and `opposite`, as it is computed and read
pub less_is : (x f y : ℤ) → IsUnit x → IsUnit f → IsUnit y
    → to_z w8 (of_z w8 (to_z w8 (of_z w8 x) -ℤ to_z w8 (of_z w8 (to_z w8 (of_z w8 f) *ℤ to_z w8 (of_z w8 y))))) ≡ x -ℤ f *ℤ y
less_is x f y h k m =
    ap₃ (λ v w z. to_z w8 (of_z w8 (v -ℤ to_z w8 (of_z w8 (w *ℤ z))))) (read8 x (unit_fits x h)) (read8 f (unit_fits f k)) (read8 y (unit_fits y m))
    ∙ ap (λ v. to_z w8 (of_z w8 (x -ℤ v))) (read8 (f *ℤ y) (unit_fits (f *ℤ y) (unit_product f y k m)))
    ∙ read8 (x -ℤ f *ℤ y) (less_fits x f y h k m)
  where
    ap₃ : (g : ℤ → ℤ → ℤ → ℤ) {a a' b b' c c' : ℤ} → a ≡ a' → b ≡ b' → c ≡ c' → g a b c ≡ g a' b' c'
    ap₃ g e e' e'' = cc

-- ---- steps of the loops

pub less-more : (width : ℕ) (old now : List ℤ) (r i : ℕ) (factor : ℤ) (j : ℕ) (z : ℤ) → i * width + width ≤ length old → i ≢ r → j < width
    → IsLessRow width old now r i factor j → z ≡ cell now width i j -ℤ factor *ℤ cell now width r j
    → IsLessRow width old (set now (i * width + j) z) r i factor (j + 1)
less-more width old now r i factor j z room apart there state is =
    let room' : i * width + width ≤ length now = let e = state.size in omega arith in
    record {
      size = length-set now (i * width + j) z ∙ state.size;
      done = λ m l h. ⊎_elim
          (λ (e : m ≡ j).
          rw e (cell-set_same now width i j z room' there ∙ is ∙ ap₂ (λ v w. v -ℤ factor *ℤ w) (state.later j there (omega arith)) (state.others r j (λ f. apart (sym f)) there)))
          (λ (ne : m ≡ j → ⊥). cell-set_other now width i j i m z there l (λ e f. ne f) ∙ state.done m l (omega arith)) (cases_eq m j);
      later = λ m l h. cell-set_other now width i j i m z there l (λ e f. omega arith) ∙ state.later m l (omega arith);
      others = λ k m ne l. cell-set_other now width i j k m z there l (λ e f. ne e) ∙ state.others k m ne l;
    }

pub scaled-more : (width : ℕ) (old now : List ℤ) (r : ℕ) (p : ℤ) (j : ℕ) (z : ℤ) → r * width + width ≤ length old → j < width
    → IsScaledRow width old now r p j → z ≡ neg_ℤ (p *ℤ cell now width r j)
    → IsScaledRow width old (set now (r * width + j) z) r p (j + 1)
scaled-more width old now r p j z room there state is =
    let room' : r * width + width ≤ length now = let e = state.size in omega arith in
    record {
      size = length-set now (r * width + j) z ∙ state.size;
      done = λ m l h. ⊎_elim
          (λ (e : m ≡ j). rw e (cell-set_same now width r j z room' there ∙ is ∙ ap (λ v. neg_ℤ (p *ℤ v)) (state.later j there (omega arith))))
          (λ (ne : m ≡ j → ⊥). cell-set_other now width r j r m z there l (λ e f. ne f) ∙ state.done m l (omega arith)) (cases_eq m j);
      later = λ m l h. cell-set_other now width r j r m z there l (λ e f. omega arith) ∙ state.later m l (omega arith);
      others = λ k m ne l. cell-set_other now width r j k m z there l (λ e f. ne e) ∙ state.others k m ne l;
    }

pub row-pivoted : (width : ℕ) (old mid : List ℤ) (r s i : ℕ) (factor z : ℤ) → i * width + width ≤ length old → i ≢ r → s < width
    → IsLessRow width old mid r i factor width → factor ≡ cell old width r s *ℤ cell old width i s → z ≡ factor
    → IsRowPivoted width old (set mid (i * width + s) z) r s i
row-pivoted width old mid r s i factor z room apart there state is written =
    let a = cell old width in
    let room' : i * width + width ≤ length mid = let e = state.size in omega arith in
    record {
      size = length-set mid (i * width + s) z ∙ state.size;
      done = λ j l. ⊎_elim
          (λ (e : j ≡ s). ap (cell (set mid (i * width + s) z) width i) e ∙ cell-set_same mid width i s z room' there ∙ written ∙ is ∙ sym (pivoted-column a r s i j apart e))
          (λ (ne : j ≡ s → ⊥).
          cell-set_other mid width i s i j z there l (λ e f. ne f) ∙ state.done j l l ∙ ap (λ v. a i j -ℤ v *ℤ a r j) is ∙ sym (pivoted-other a r s i j apart ne)) (cases_eq j s);
      others = λ k j ne l. cell-set_other mid width i s k j z there l (λ e f. ne e) ∙ state.others k j ne l;
    }

pub row-untouched : (width : ℕ) (old : List ℤ) (r s i : ℕ) → i ≢ r → cell old width i s ≡ pos 0 → IsRowPivoted width old old r s i
row-untouched width old r s i apart none =
    let a = cell old width in
    record {
      size = refl;
      done = λ j l. sym (⊎_elim
          (λ (e : j ≡ s). pivoted-column a r s i j apart e ∙ ap (λ v. a r s *ℤ v) none ∙ nothing (a r s) ∙ sym none ∙ ap (a i) (sym e))
          (λ (ne : j ≡ s → ⊥). pivoted-other a r s i j apart ne ∙ ap (λ v. a i j -ℤ (a r s *ℤ v) *ℤ a r j) none ∙ no_less (a i j) (a r s) (a r j)) (cases_eq j s));
      others = λ k j ne l. refl;
    }
  where
    nothing : (x : ℤ) → x *ℤ pos 0 ≡ pos 0
    nothing x = omega (arith, rings)

    zero_times : (x y : ℤ) → x -ℤ pos 0 *ℤ y ≡ x
    zero_times x y = omega (arith, rings)

    no_less : (x p y : ℤ) → x -ℤ (p *ℤ pos 0) *ℤ y ≡ x
    no_less x p y = ap (λ v. x -ℤ v *ℤ y) (nothing p) ∙ zero_times x y

pub pivoted-same : (a b : ℕ → ℕ → ℤ) (r s i j : ℕ) → a r s ≡ b r s → a r j ≡ b r j → a i s ≡ b i s → a i j ≡ b i j → pivoted a r s i j ≡ pivoted b r s i j
pivoted-same a b r s i j e f g h =
    ⊎_elim
    (λ (row : i ≡ r).
    ⊎_elim (λ (column : j ≡ s). pivoted-there a r s i j row column ∙ e ∙ sym (pivoted-there b r s i j row column))
    (λ (off : j ≡ s → ⊥). pivoted-row a r s i j row off ∙ ap₂ (λ v w. neg_ℤ (v *ℤ w)) e f ∙ sym (pivoted-row b r s i j row off)) (cases_eq j s))
    (λ (apart : i ≡ r → ⊥).
    ⊎_elim (λ (column : j ≡ s). pivoted-column a r s i j apart column ∙ ap₂ (λ v w. v *ℤ w) e g ∙ sym (pivoted-column b r s i j apart column))
    (λ (off : j ≡ s → ⊥). pivoted-other a r s i j apart off ∙ ap₂ (λ v w. v -ℤ w) h (ap₂ (λ v w. v *ℤ w) (ap₂ (λ v w. v *ℤ w) e g) f) ∙ sym (pivoted-other b r s i j apart off)) (cases_eq j s))
    (cases_eq i r)

pub rows-more : (width : ℕ) (old now new : List ℤ) (r s i : ℕ) → s < width → i ≢ r → AreRowsPivoted width old now r s i → IsRowPivoted width now new r s i
    → AreRowsPivoted width old new r s (i + 1)
rows-more width old now new r s i column apart state row =
    record {
      size = row.size ∙ state.size;
      done = λ k j l ne h. ⊎_elim
          (λ (e : k ≡ i).
          rw e (row.done j h ∙ pivoted-same (cell now width) (cell old width) r s i j (state.pivot_row s column) (state.pivot_row j h) (state.later i s (omega arith) column) (state.later i j (omega arith) h)))
          (λ (off : k ≡ i → ⊥). row.others k j off h ∙ state.done k j (omega arith) ne h) (cases_eq k i);
      later = λ k j l h. row.others k j (λ e. omega arith) h ∙ state.later k j (omega arith) h;
      pivot_row = λ j h. row.others r j (λ e. apart (sym e)) h ∙ state.pivot_row j h;
    }

pub rows-skip : (width : ℕ) (old now : List ℤ) (r s i : ℕ) → i ≡ r → AreRowsPivoted width old now r s i → AreRowsPivoted width old now r s (i + 1)
rows-skip width old now r s i e state =
    record {
      size = state.size;
      done = λ k j l ne h. state.done k j (⊎_elim (λ (f : k ≡ i). absurd (ne (f ∙ e))) (λ (off : k ≡ i → ⊥). omega arith) (cases_eq k i)) ne h;
      later = λ k j l h. state.later k j (omega arith) h;
      pivot_row = state.pivot_row;
    }

pub marked : (width : ℕ) (old : List ℤ) (node column : ℕ) (value z : ℤ) → 0 < node → node * width ≤ length old → column < width → z ≡ value
    → IsMarked width old (set old ((node - 1) * width + column) z) node column value
marked width old node column value z above room there written =
    let row = node - 1 in
    let fits : row * width + width ≤ length old = one_less node width above room in
    record {
      size = length-set old (row * width + column) z;
      cells = λ i j l. ⊎_elim
          (λ (e : node ≡ i + 1).
          let at_row : i ≡ row = omega arith in
          ⊎_elim
          (λ (f : j ≡ column).
          rw (eq-eqb node (i + 1) e, eq-eqb j column f) (ap₂ (cell (set old (row * width + column) z) width) at_row f ∙ cell-set_same old width row column z fits there ∙ written))
          (λ (ne : j ≡ column → ⊥). rw (eq-eqb node (i + 1) e, ne_eqb j column ne) (cell-set_other old width row column i j z there l (λ g h. ne h)))
          (cases_eq j column))
          (λ (ne : node ≡ i + 1 → ⊥). rw (ne_eqb node (i + 1) ne) (cell-set_other old width row column i j z there l (λ g h. ne (omega arith))))
          (cases_eq node (i + 1));
    }
  where
    one_less : (node width : ℕ) → 0 < node → node * width ≤ length old → (node - 1) * width + width ≤ length old
    one_less zero width above room = absurd (omega arith)
    one_less (suc n) width above room = let e : suc n - 1 ≡ n = omega arith in rw e (omega arith)

-- ---- with the readings of the code

pub zero8 : (z : ℤ) → FitsSigned w8 z → of_z w8 z ≡ 0 → z ≡ pos 0
zero8 z fits e = sym (read8 z fits) ∙ ap (to_z w8) e

pub less-step : (width : ℕ) (old now : List ℤ) (r i : ℕ) (factor : ℤ) (j : ℕ) (result : ℤ) → i * width + width ≤ length old → i ≢ r → j < width
    → AreUnits width old r → AreUnits width old i → IsLessRow width old now r i factor j → FitsSigned w8 result
    → result ≡ to_z w8 (of_z w8 (cell now width i j)) -ℤ factor *ℤ to_z w8 (of_z w8 (cell now width r j))
    → IsLessRow width old (set now (i * width + j) (to_z w8 (of_z w8 result))) r i factor (j + 1)
less-step width old now r i factor j result room apart there units_r units_i state fits is =
    let here = state.later j there (omega arith) in
    let pivot_row = state.others r j (λ e. apart (sym e)) there in
    let fits_i : FitsSigned w8 (cell now width i j) = rw here (unit_fits (cell old width i j) (units_i j there)) in
    let fits_r : FitsSigned w8 (cell now width r j) = rw pivot_row (unit_fits (cell old width r j) (units_r j there)) in
    less-more width old now r i factor j (to_z w8 (of_z w8 result)) room apart there state
    (read8 result fits ∙ is ∙ ap₂ (λ v w. v -ℤ factor *ℤ w) (read8 (cell now width i j) fits_i) (read8 (cell now width r j) fits_r))

pub scaled-step : (width : ℕ) (old now : List ℤ) (r : ℕ) (p : ℤ) (j : ℕ) (result : ℤ) → r * width + width ≤ length old → j < width
    → AreUnits width old r → IsScaledRow width old now r p j → FitsSigned w8 result
    → result ≡ neg_ℤ (p *ℤ to_z w8 (of_z w8 (cell now width r j)))
    → IsScaledRow width old (set now (r * width + j) (to_z w8 (of_z w8 result))) r p (j + 1)
scaled-step width old now r p j result room there units state fits is =
    let here = state.later j there (omega arith) in
    let fits_r : FitsSigned w8 (cell now width r j) = rw here (unit_fits (cell old width r j) (units j there)) in
    scaled-more width old now r p j (to_z w8 (of_z w8 result)) room there state
    (read8 result fits ∙ is ∙ ap (λ v. neg_ℤ (p *ℤ v)) (read8 (cell now width r j) fits_r))

pub factor-is : (width : ℕ) (old : List ℤ) (r s i : ℕ) (result : ℤ) → s < width → AreUnits width old r → AreUnits width old i → FitsSigned w8 result
    → result ≡ to_z w8 (of_z w8 (cell old width r s)) *ℤ to_z w8 (of_z w8 (cell old width i s))
    → to_z w8 (of_z w8 result) ≡ cell old width r s *ℤ cell old width i s
factor-is width old r s i result there units_r units_i fits is =
    read8 result fits ∙ is
    ∙ ap₂ (λ v w. v *ℤ w) (read8 (cell old width r s) (unit_fits (cell old width r s) (units_r s there))) (read8 (cell old width i s) (unit_fits (cell old width i s) (units_i s there)))
