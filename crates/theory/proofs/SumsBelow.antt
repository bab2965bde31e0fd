-- Sums below a bound. Each law goes by induction on the bound: of the longer sum the last term is known, and the rest is the
-- law for the shorter one. Where one place is singled out, a term that changes, that is compared with the whole sum or that
-- alone counts, it is the last place, and the terms before are none of its business, or it is below the last, whose term is then
-- an ordinary one. Where no term is above its partner the sums are equal only if no term is below its partner either.
use Rattle.std.proofs.Common.{◌≡◌, ◌≢◌, ℕ, zero, suc, ◌<◌, ◌≤◌, ℤ, pos, ◌+ℤ◌, ◌-ℤ◌, ◌*ℤ◌, ◌≤ℤ◌, Bool, true, false, ◌==◌, refl, ap, ⊎_elim, eq-eqb, arith}
use Rattle.std.proofs.lemmas.Int.{ints}
use Rattle.std.proofs.lemmas.Bool.{cases_lt, ne_eqb}
use Rattle.theory.specs.Sums.{sum_below, counted}
use Rattle.theory.proofs.Rings.{rings}

pub sum_below-same : (n : ℕ) (f g : ℕ → ℤ) → ((k : ℕ) → k < n → f k ≡ g k) → sum_below n f ≡ sum_below n g
sum_below-same zero f g h = refl
sum_below-same (suc n) f g h =
    let e : sum_below n f ≡ sum_below n g = sum_below-same n f g (λ k l. h k (omega arith)) in
    let hit : f n ≡ g n = h n (omega arith) in
    cc

pub sum_below-zero : (n : ℕ) (f : ℕ → ℤ) → ((k : ℕ) → k < n → f k ≡ pos 0) → sum_below n f ≡ pos 0
sum_below-zero zero f h = refl
sum_below-zero (suc n) f h =
    let e : sum_below n f ≡ pos 0 = sum_below-zero n f (λ k l. h k (omega arith)) in
    let hit : f n ≡ pos 0 = h n (omega arith) in
    omega (arith, ints)

pub sum_below-add : (n : ℕ) (f g : ℕ → ℤ) → sum_below n (λ k. f k +ℤ g k) ≡ sum_below n f +ℤ sum_below n g
sum_below-add zero f g = refl
sum_below-add (suc n) f g =
    let e : sum_below n (λ k. f k +ℤ g k) ≡ sum_below n f +ℤ sum_below n g = sum_below-add n f g in
    omega (arith, ints)

-- the first term apart
pub sum_below-front : (n : ℕ) (f : ℕ → ℤ) → sum_below (suc n) f ≡ f 0 +ℤ sum_below n (λ k. f (suc k))
sum_below-front zero f = omega (arith, ints)
sum_below-front (suc n) f = let e = sum_below-front n f in omega (arith, ints)

pub sum_below-sub : (n : ℕ) (f g : ℕ → ℤ) → sum_below n (λ k. f k -ℤ g k) ≡ sum_below n f -ℤ sum_below n g
sum_below-sub zero f g = refl
sum_below-sub (suc n) f g =
    let e : sum_below n (λ k. f k -ℤ g k) ≡ sum_below n f -ℤ sum_below n g = sum_below-sub n f g in
    omega (arith, ints)

-- a common factor
pub sum_below-mul : (n : ℕ) (a : ℤ) (f : ℕ → ℤ) → sum_below n (λ k. a *ℤ f k) ≡ a *ℤ sum_below n f
sum_below-mul zero a f = omega (arith, ints)
sum_below-mul (suc n) a f =
    let e : sum_below n (λ k. a *ℤ f k) ≡ a *ℤ sum_below n f = sum_below-mul n a f in
    omega (arith, rings)

-- the order of the terms is that of the sums
pub sum_below-order : (n : ℕ) (f g : ℕ → ℤ) → ((k : ℕ) → k < n → f k ≤ℤ g k) → sum_below n f ≤ℤ sum_below n g
sum_below-order zero f g h = omega (arith, ints)
sum_below-order (suc n) f g h =
    let e : sum_below n f ≤ℤ sum_below n g = sum_below-order n f g (λ k l. h k (omega arith)) in
    let hit : f n ≤ℤ g n = h n (omega arith) in
    omega (arith, ints)

-- where no term is above its partner and the sums are equal, so are the terms
pub sum_below-equal_terms : (n : ℕ) (f g : ℕ → ℤ) → ((k : ℕ) → k < n → f k ≤ℤ g k) → sum_below n g ≤ℤ sum_below n f
    → (k : ℕ) → k < n → f k ≡ g k
sum_below-equal_terms zero f g h total k l = absurd (omega arith)
sum_below-equal_terms (suc n) f g h total k l =
    let before : (i : ℕ) → i < n → f i ≤ℤ g i = λ i j. h i (omega arith) in
    let hit : f n ≤ℤ g n = h n (omega arith) in
    let e : sum_below n f ≤ℤ sum_below n g = sum_below-order n f g before in
    ⊎_elim (λ (below : k < n). sum_below-equal_terms n f g before (omega (arith, ints)) k below)
    (λ (above : n ≤ k). let same : n ≡ k = omega arith in let here : f n ≡ g n = omega (arith, ints) in rw same at here)
    (cases_lt k n)

-- where one term changes the sum changes by as much
pub sum_below-change : (n i : ℕ) (f g : ℕ → ℤ) → i < n → ((k : ℕ) → k < n → k ≢ i → g k ≡ f k)
    → sum_below n g +ℤ f i ≡ sum_below n f +ℤ g i
sum_below-change zero i f g l same = absurd (omega arith)
sum_below-change (suc n) i f g l same =
    ⊎_elim
    (λ (below : i < n).
    let e : sum_below n g +ℤ f i ≡ sum_below n f +ℤ g i = sum_below-change n i f g below (λ k h ne. same k (omega arith) ne) in
    let last : g n ≡ f n = same n (omega arith) (λ hit. omega arith) in
    omega (arith, ints))
    (λ (above : n ≤ i).
    let hit : n ≡ i = omega arith in
    let e : sum_below n g ≡ sum_below n f = sum_below-same n g f (λ k h. same k (omega arith) (λ there. omega arith)) in
    let f_there : f n ≡ f i = ap f hit in
    let g_there : g n ≡ g i = ap g hit in
    omega (arith, ints))
    (cases_lt i n)

-- no term is above the sum where none is below 0
pub sum_below-term : (n i : ℕ) (f : ℕ → ℤ) → i < n → ((k : ℕ) → k < n → pos 0 ≤ℤ f k) → f i ≤ℤ sum_below n f
sum_below-term zero i f l h = absurd (omega arith)
sum_below-term (suc n) i f l h =
    let last : pos 0 ≤ℤ f n = h n (omega arith) in
    ⊎_elim
    (λ (below : i < n). let e : f i ≤ℤ sum_below n f = sum_below-term n i f below (λ k before. h k (omega arith)) in omega (arith, ints))
    (λ (above : n ≤ i).
    let hit : i ≡ n = omega arith in
    let there : f i ≡ f n = ap f hit in
    let rest = sum_below-order n (λ k. pos 0) f (λ k before. h k (omega arith)) in
    let none = sum_below-zero n (λ k. pos 0) (λ k before. refl) in
    omega (arith, ints))
    (cases_lt i n)

-- ---- numbers that count where a test passes

pub counted-zero : (b : Bool) (x : ℤ) → x ≡ pos 0 → counted b x ≡ pos 0
counted-zero true x e = e
counted-zero false x e = refl

pub counted-add : (b : Bool) (x d : ℤ) → counted b (x +ℤ d) ≡ counted b x +ℤ counted b d
counted-add true x d = refl
counted-add false x d = refl

counted-miss : (i k : ℕ) (x : ℤ) → (i ≡ k → ⊥) → counted (i == k) x ≡ pos 0
counted-miss i k x ne = rw (ne_eqb i k ne)

counted-hit : (i k : ℕ) (x : ℤ) → i ≡ k → counted (i == k) x ≡ x
counted-hit i k x e = rw (eq-eqb i k e)

-- of a sum with one hit that term is left
pub sum_below-pick : (n i : ℕ) (f : ℕ → ℤ) → i < n → sum_below n (λ k. counted (i == k) (f k)) ≡ f i
sum_below-pick zero i f l = absurd (omega arith)
sum_below-pick (suc n) i f l =
    ⊎_elim
    (λ (below : i < n).
    let e : sum_below n (λ k. counted (i == k) (f k)) ≡ f i = sum_below-pick n i f below in
    let last : counted (i == n) (f n) ≡ pos 0 = counted-miss i n (f n) (λ same. omega arith) in
    omega (arith, ints))
    (λ (above : n ≤ i).
    let same : i ≡ n = omega arith in
    let e : sum_below n (λ k. counted (i == k) (f k)) ≡ pos 0 =
    sum_below-zero n (λ k. counted (i == k) (f k)) (λ k below. counted-miss i k (f k) (λ hit. omega arith)) in
    let last : counted (i == n) (f n) ≡ f n = counted-hit i n (f n) same in
    let there : f i ≡ f n = ap f same in
    omega (arith, ints))
    (cases_lt i n)
