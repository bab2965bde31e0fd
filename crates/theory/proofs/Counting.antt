-- Sums of counts over numbers below a bound. The main fact: different numbers below n, each counted by f, are together
-- counted at most as all numbers below n are. By induction: the last of the numbers is counted by itself, and the others no
-- less if f leaves that one out, since none of them is equal to it.
use Rattle.std.proofs.Common.{◌≡◌, ◌≢◌, ℕ, zero, suc, ◌+◌, ◌*◌, ◌<◌, ◌≤◌, ◌==◌, if◌then◌else◌, refl, sym, ap, ⊎_elim, eq-eqb, arith}
use Rattle.std.proofs.lemmas.Bool.{cases_lt, ne_eqb}
use Rattle.theory.specs.Sums.{total_below}

pub total_below-same : (n : ℕ) (f g : ℕ → ℕ) → ((k : ℕ) → k < n → f k ≡ g k) → total_below n f ≡ total_below n g
total_below-same zero f g h = refl
total_below-same (suc n) f g h =
    let e : total_below n f ≡ total_below n g = total_below-same n f g (λ k l. h k (omega arith)) in
    let last : f n ≡ g n = h n (omega arith) in
    omega arith

pub total_below-order : (n : ℕ) (f g : ℕ → ℕ) → ((k : ℕ) → k < n → f k ≤ g k) → total_below n f ≤ total_below n g
total_below-order zero f g h = omega arith
total_below-order (suc n) f g h =
    let e : total_below n f ≤ total_below n g = total_below-order n f g (λ k l. h k (omega arith)) in
    let last : f n ≤ g n = h n (omega arith) in
    omega arith

pub total_below-add : (n : ℕ) (f g : ℕ → ℕ) → total_below n (λ k. f k + g k) ≡ total_below n f + total_below n g
total_below-add zero f g = omega arith
total_below-add (suc n) f g = let e = total_below-add n f g in omega arith

pub total_below-zero : (n : ℕ) → total_below n (λ k. 0) ≡ 0
total_below-zero zero = refl
total_below-zero (suc n) = let e = total_below-zero n in omega arith

pub total_below-ones : (n : ℕ) → total_below n (λ k. 1) ≡ n
total_below-ones zero = refl
total_below-ones (suc n) = let e = total_below-ones n in omega arith

-- a bound of each term, that many times
pub total_below-most : (n most : ℕ) (f : ℕ → ℕ) → ((k : ℕ) → k < n → f k ≤ most) → total_below n f ≤ n * most
total_below-most zero most f each = omega arith
total_below-most (suc n) most f each =
    let before : total_below n f ≤ n * most = total_below-most n most f (λ k l. each k (omega arith)) in
    let last : f n ≤ most = each n (omega arith) in
    omega arith

pub total_below-term : (n i : ℕ) (f : ℕ → ℕ) → i < n → f i ≤ total_below n f
total_below-term zero i f l = absurd (omega arith)
total_below-term (suc n) i f l =
    ⊎_elim
    (λ (below : i < n). let e : f i ≤ total_below n f = total_below-term n i f below in omega arith)
    (λ (above : n ≤ i). let hit : i ≡ n = omega arith in let there : f i ≡ f n = ap f hit in omega arith)
    (cases_lt i n)

-- where one term changes the total changes by as much
pub total_below-change : (n i : ℕ) (f g : ℕ → ℕ) → i < n → ((k : ℕ) → k < n → k ≢ i → g k ≡ f k)
    → total_below n g + f i ≡ total_below n f + g i
total_below-change zero i f g l same = absurd (omega arith)
total_below-change (suc n) i f g l same =
    ⊎_elim
    (λ (below : i < n).
    let e : total_below n g + f i ≡ total_below n f + g i = total_below-change n i f g below (λ k h ne. same k (omega arith) ne) in
    let last : g n ≡ f n = same n (omega arith) (λ hit. omega arith) in
    omega arith)
    (λ (above : n ≤ i).
    let hit : n ≡ i = omega arith in
    let e : total_below n g ≡ total_below n f = total_below-same n g f (λ k h. same k (omega arith) (λ there. omega arith)) in
    let f_there : f n ≡ f i = ap f hit in
    let g_there : g n ≡ g i = ap g hit in
    omega arith)
    (cases_lt i n)

-- ---- one number left out

abbrev pub without : ℕ → (ℕ → ℕ) → ℕ → ℕ
without x f k = if k == x then 0 else f k

pub without-other : (x : ℕ) (f : ℕ → ℕ) (k : ℕ) → k ≢ x → without x f k ≡ f k
without-other x f k ne = rw (ne_eqb k x ne) refl

without-same : (x : ℕ) (f : ℕ → ℕ) (k : ℕ) → k ≡ x → without x f k ≡ 0
without-same x f k e = rw (eq-eqb k x e) refl

pub total_below-without : (n x : ℕ) (f : ℕ → ℕ) → x < n → total_below n f ≡ total_below n (without x f) + f x
total_below-without zero x f l = absurd (omega arith)
total_below-without (suc n) x f l =
    ⊎_elim
    (λ (below : x < n).
    let e : total_below n f ≡ total_below n (without x f) + f x = total_below-without n x f below in
    let last : without x f n ≡ f n = without-other x f n (λ same. omega arith) in
    omega arith)
    (λ (above : n ≤ x).
    let same : n ≡ x = omega arith in
    let e : total_below n (without x f) ≡ total_below n f = total_below-same n (without x f) f (λ k h. without-other x f k (λ hit. omega arith)) in
    let last : without x f n ≡ 0 = without-same x f n same in
    let there : f n ≡ f x = ap f same in
    omega arith)
    (cases_lt x n)

-- ---- different numbers

pub total_below-distinct : (count n : ℕ) (number : ℕ → ℕ) (f : ℕ → ℕ)
    → ((i k : ℕ) → i < k → k < count → number i ≢ number k) → ((k : ℕ) → k < count → number k < n)
    → total_below count (λ k. f (number k)) ≤ total_below n f
total_below-distinct zero n number f differ below = omega arith
total_below-distinct (suc count) n number f differ below =
    let x = number count in
    let rest : total_below count (λ k. without x f (number k)) ≤ total_below n (without x f) =
    total_below-distinct count n number (without x f) (λ i k l h. differ i k l (omega arith)) (λ k h. below k (omega arith)) in
    let same : total_below count (λ k. f (number k)) ≡ total_below count (λ k. without x f (number k)) =
    total_below-same count (λ k. f (number k)) (λ k. without x f (number k))
    (λ k h. sym (without-other x f (number k) (differ k count h (omega arith)))) in
    let split : total_below n f ≡ total_below n (without x f) + f x = total_below-without n x f (below count (omega arith)) in
    omega arith

-- different numbers below n, none of which is x, are fewer than n
pub fewer-without : (count n x : ℕ) (number : ℕ → ℕ)
    → ((i k : ℕ) → i < k → k < count → number i ≢ number k) → ((k : ℕ) → k < count → number k < n)
    → x < n → ((k : ℕ) → k < count → number k ≢ x) → count < n
fewer-without count n x number differ below there others =
    let ones : ℕ → ℕ = λ k. 1 in
    let all : total_below count (λ k. without x ones (number k)) ≡ total_below count ones =
    total_below-same count (λ k. without x ones (number k)) ones (λ k h. without-other x ones (number k) (others k h)) in
    let most = total_below-distinct count n number (without x ones) differ below in
    let split : total_below n ones ≡ total_below n (without x ones) + 1 = total_below-without n x ones there in
    let e = total_below-ones count in
    let e_too = total_below-ones n in
    omega arith
