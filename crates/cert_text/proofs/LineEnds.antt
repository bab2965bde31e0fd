-- Lines by the place of their LF.
use Rattle.std.proofs.Common.{◌≡◌, ◌≢◌, ℕ, zero, suc, ◌+◌, ◌<◌, ◌≤◌, ◌==◌, Option, Some, None, position, Bool, true, false, List, [], ◌∷◌, ◌++◌, length, get_or, take, drop, refl, sym, ap, ◌∙◌, arith, add-one, zero-add}
use Rattle.std.proofs.Math.Nat.{suc-add}
use Rattle.std.proofs.lemmas.Bool.{ne_eqb, eq-eqb, eqb-true, eqb-false}
use Rattle.std.proofs.lemmas.List.Quantifiers.{position-Some}
use Rattle.model_text.proofs.Places.{fails_where_none}
use Rattle.cert_text.specs.Candidate.{first_line, after_line, after}

-- a text with its first LF at place i, and one without
pub line_ends : (text : List ℕ) (i : ℕ) → i < length text → get_or text i 0 ≡ 10 → ((k : ℕ) → k < i → get_or text k 0 ≢ 10)
    → (take (suc i) text ≡ first_line text) × (drop (suc i) text ≡ after_line text)
line_ends [] i here is before = absurd (omega arith)
line_ends (b ∷ bs) zero here is before =
    let test = eq-eqb b 10 is in
    (rw test (ap (λ c. c ∷ []) is), rw test refl)
line_ends (b ∷ bs) (suc i) here is before =
    let test = ne_eqb b 10 (before 0 (omega arith)) in
    let rest = line_ends bs i (omega arith) is (λ k below. before (suc k) (omega arith)) in
    (rw test (ap (λ l. b ∷ l) rest.0), rw test rest.1)

pub no_line_ends : (text : List ℕ) → ((k : ℕ) → k < length text → get_or text k 0 ≢ 10) → (text ≡ first_line text) × ([] ≡ after_line text)
no_line_ends [] none = (refl, refl)
no_line_ends (b ∷ bs) none =
    let test = ne_eqb b 10 (none 0 (omega arith)) in
    let rest = no_line_ends bs (λ k below. none (suc k) (omega arith)) in
    (rw test (ap (λ l. b ∷ l) rest.0), rw test rest.1)

pub line_and_rest : (text : List ℕ) → text ≡ first_line text ++ after_line text
line_and_rest [] = refl
line_and_rest (b ∷ bs) = by (b == 10) refl (line_and_rest bs)
  where
    by : (t : Bool) → (b == 10) ≡ t → bs ≡ first_line bs ++ after_line bs → b ∷ bs ≡ first_line (b ∷ bs) ++ after_line (b ∷ bs)
    by true e rest = rw e (ap (λ c. c ∷ bs) (eqb-true b 10 e))
    by false e rest = rw e (ap (λ l. b ∷ l) rest)

pub after-shift : (n : ℕ) (text : List ℕ) → after n (after_line text) ≡ after_line (after n text)
after-shift zero text = refl
after-shift (suc n) text = ap after_line (after-shift n text)

pub after-after : (n k : ℕ) (text : List ℕ) → after n (after k text) ≡ after (n + k) text
after-after zero k text = rw zero-add refl
after-after (suc n) k text = ap after_line (after-after n k text) ∙ rw suc-add refl

-- the same by the answer of a search for the LF
pub line_found : (text : List ℕ) (answer : Option ℕ) (i : ℕ) → answer ≡ position (λ b. b == 10) text → answer ≡ Some i
    → (take (i + 1) text ≡ first_line text) × (drop (i + 1) text ≡ after_line text)
line_found text answer i is some =
    let at = position-Some (λ b. b == 10) text i 0 (sym is ∙ some) in
    rw add-one (line_ends text i at.0 (eqb-true (get_or text i 0) 10 at.1) (λ k below. eqb-false (get_or text k 0) 10 (at.2 k below)))

pub no_line_found : (text : List ℕ) (answer : Option ℕ) → answer ≡ position (λ b. b == 10) text → answer ≡ None
    → (text ≡ first_line text) × ([] ≡ after_line text)
no_line_found text answer is none =
    no_line_ends text (λ k here. eqb-false (get_or text k 0) 10 (fails_where_none (λ b. b == 10) text (sym is ∙ none) k 0 here))

no_longer : (text : List ℕ) → length (after_line text) ≤ length text
no_longer [] = omega arith
no_longer (b ∷ bs) = by (b == 10) refl (no_longer bs)
  where
    by : (t : Bool) → (b == 10) ≡ t → length (after_line bs) ≤ length bs → length (after_line (b ∷ bs)) ≤ length (b ∷ bs)
    by true e rest = rw e (omega arith)
    by false e rest = rw e (omega arith)

-- a text is shorter behind a line
pub shorter : (text : List ℕ) → first_line text ≢ [] → length (after_line text) < length text
shorter [] some = absurd (some refl)
shorter (b ∷ bs) some = by (b == 10) refl (no_longer bs)
  where
    by : (t : Bool) → (b == 10) ≡ t → length (after_line bs) ≤ length bs → length (after_line (b ∷ bs)) < length (b ∷ bs)
    by true e rest = rw e (omega arith)
    by false e rest = rw e (omega arith)

pub after_no_longer : (n : ℕ) (text : List ℕ) → length (after n text) ≤ length text
after_no_longer zero text = omega arith
after_no_longer (suc n) text = omega (arith, no_longer (after n text), after_no_longer n text)
