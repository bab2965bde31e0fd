-- A list with some of its elements replaced by as many others, and its parts before, at and behind these.
use Rattle.std.proofs.Common.{◌≡◌, ℕ, ◌+◌, ◌-◌, ◌<◌, ◌≤◌, List, ◌++◌, length, take, drop, set, sym, ap, ap₂, ◌∙◌, length-append, length-drop, arith}
use Rattle.std.proofs.lemmas.List.{append_assoc, take_at, drop_at, take-take, take-append-le, take-set-le, drop-take, drop-drop, drop-append-le, drop-set-lt, drop-set-add, length-take-le, take-append-drop}
use Rattle.std.proofs.Math.Seq.{take-set-lt, drop-append-add}

abbrev pub pasted : {A : Type 0} → ℕ → ℕ → List A → List A → List A
pasted start len words xs = take start xs ++ (words ++ drop (start + len) xs)

-- the part of a list that begins at `start` and has `len` elements
abbrev pub part : {A : Type 0} → ℕ → ℕ → List A → List A
part start len xs = take len (drop start xs)

pub length-part : {A : Type 0} (start len : ℕ) (xs : List A) → start + len ≤ length xs → length (part start len xs) ≡ len
length-part start len xs within =
    let rest = length-drop start xs in
    length-take-le len (drop start xs) (omega arith)

-- what is behind the front of a part
pub part-behind : {A : Type 0} (start len k : ℕ) (xs : List A) → k ≤ len → drop k (part start len xs) ≡ part (start + k) (len - k) xs
part-behind start len k xs within =
    let m : ℕ = len - k in
    let same : k + m ≡ len = omega arith in
    ap (λ n. drop k (part start n xs)) (sym same)
    ∙ drop-take k m (drop start xs)
    ∙ ap (take m) (drop-drop k start xs)

-- ---- parts of the front

pub part-take : {A : Type 0} (start len n : ℕ) (xs : List A) → start + len ≤ n → part start len (take n xs) ≡ part start len xs
part-take start len n xs within =
    let m : ℕ = n - start in
    let same : start + m ≡ n = omega arith in
    ap (λ k. take len (drop start (take k xs))) (sym same)
    ∙ ap (take len) (drop-take start m xs)
    ∙ take-take len m (drop start xs) (omega arith)

pub part-append : {A : Type 0} (start len : ℕ) (xs ys : List A) → start + len ≤ length xs → part start len (xs ++ ys) ≡ part start len xs
part-append start len xs ys within =
    let rest = length-drop start xs in
    ap (take len) (drop-append-le start xs ys (omega arith))
    ∙ take-append-le len (drop start xs) ys (omega arith)

-- ---- one element written

pub part-set_at : {A : Type 0} (start len i : ℕ) (x : A) (xs : List A) → i < len → part start len (set xs (start + i) x) ≡ set (part start len xs) i x
part-set_at start len i x xs within =
    ap (take len) (drop-set-add start xs i x) ∙ take-set-lt len (drop start xs) i x within

pub part-set_before : {A : Type 0} (start len i : ℕ) (x : A) (xs : List A) → i < start → part start len (set xs i x) ≡ part start len xs
part-set_before start len i x xs before = ap (take len) (drop-set-lt start xs i x before)

pub part-set_behind : {A : Type 0} (start len i : ℕ) (x : A) (xs : List A) → start + len ≤ i → part start len (set xs i x) ≡ part start len xs
part-set_behind start len i x xs behind =
    let j : ℕ = i - start in
    let same : start + j ≡ i = omega arith in
    ap (λ k. part start len (set xs k x)) (sym same)
    ∙ ap (take len) (drop-set-add start xs j x)
    ∙ take-set-le len (drop start xs) j x (omega arith)

-- ---- as many others pasted

pub length-pasted : {A : Type 0} (start len : ℕ) (words xs : List A) → length words ≡ len → start + len ≤ length xs
    → length (pasted start len words xs) ≡ length xs
length-pasted start len words xs size within =
    let all = length-append (take start xs) (words ++ drop (start + len) xs) in
    let rest = length-append words (drop (start + len) xs) in
    let front = length-take-le start xs (omega arith) in
    let back = length-drop (start + len) xs in
    omega arith

pub pasted-append : {A : Type 0} (start len : ℕ) (words xs ys : List A) → start + len ≤ length xs
    → pasted start len words (xs ++ ys) ≡ pasted start len words xs ++ ys
pasted-append start len words xs ys within =
    ap₂ (λ (front : List _) (back : List _). front ++ (words ++ back))
    (take-append-le start xs ys (omega arith)) (drop-append-le (start + len) xs ys within)
    ∙ ap (λ back. take start xs ++ back) (sym (append_assoc words (drop (start + len) xs) ys))
    ∙ sym (append_assoc (take start xs) (words ++ drop (start + len) xs) ys)

-- a write to the front of a list is one to that front
pub take-pasted : {A : Type 0} (start len n : ℕ) (words xs : List A) → length words ≡ len → start + len ≤ n → n ≤ length xs
    → take n (pasted start len words xs) ≡ pasted start len words (take n xs)
take-pasted start len n words xs size within front =
    let count : length (take n xs) ≡ n = length-take-le n xs front in
    let split = take-append-drop n xs in
    ap (λ all. take n (pasted start len words all)) (sym split)
    ∙ ap (take n) (pasted-append start len words (take n xs) (drop n xs) (omega arith))
    ∙ take_at (pasted start len words (take n xs)) (drop n xs) n
    (length-pasted start len words (take n xs) size (omega arith) ∙ count)

pub part-pasted_at : {A : Type 0} (start len : ℕ) (words xs : List A) → length words ≡ len → start + len ≤ length xs
    → part start len (pasted start len words xs) ≡ words
part-pasted_at start len words xs size within =
    ap (take len) (drop_at (take start xs) (words ++ drop (start + len) xs) start (length-take-le start xs (omega arith)))
    ∙ take_at words (drop (start + len) xs) len size

pub part-pasted_behind : {A : Type 0} (at count start len : ℕ) (words xs : List A) → length words ≡ len → start + len ≤ length xs
    → start + len ≤ at → part at count (pasted start len words xs) ≡ part at count xs
part-pasted_behind at count start len words xs size within behind =
    let front : List _ = take start xs ++ words in
    let long : length front ≡ start + len =
    length-append (take start xs) words ∙ ap₂ ◌+◌ (length-take-le start xs (omega arith)) size in
    let j : ℕ = at - (start + len) in
    let same : length front + j ≡ at = omega arith in
    let place : start + len + j ≡ at = omega arith in
    ap (λ k. part k count (pasted start len words xs)) (sym same)
    ∙ ap (λ all. part (length front + j) count all) (sym (append_assoc (take start xs) words (drop (start + len) xs)))
    ∙ ap (take count) (drop-append-add front (drop (start + len) xs) j)
    ∙ ap (take count) (drop-drop j (start + len) xs)
    ∙ ap (λ k. part k count xs) place

pub part-pasted_before : {A : Type 0} (at count start len : ℕ) (words xs : List A) → start + len ≤ length xs
    → at + count ≤ start → part at count (pasted start len words xs) ≡ part at count xs
part-pasted_before at count start len words xs within before =
    let long = length-take-le start xs (omega arith) in
    part-append at count (take start xs) (words ++ drop (start + len) xs) (omega arith)
    ∙ part-take at count start xs before
