-- What a region is seen as after a write. The words of its blocks are the first words of its list, so a write to a block is one
-- to these, and every block apart from it has the same words before and after.
use Rattle.std.proofs.Common.{◌≡◌, ℕ, ◌+◌, ◌-◌, ◌<◌, ◌≤◌, ℤ, pos, List, ◌++◌, length, take, drop, set, replicate, refl, sym, ap, ap₂, ◌∙◌, inl, inr, ⊎_elim, length-append, length-drop, arith}
use Rattle.std.proofs.lemmas.List.{append_assoc, take_at, take_all, take-take, take-append-le, take-append-drop, drop_at, drop-drop, drop-append-le, length-replicate, length-take-le, length-set}
use Rattle.std.proofs.lemmas.Bool.{cases_lt}
use Rattle.std.proofs.Math.Seq.{take-set-lt}
use Rattle.work_region.specs.declared.block.Block.{Block}
use Rattle.work_region.specs.Words.{Words}
use Rattle.work_region.specs.Blocks.{end_of, IsBlockOf, IsCarved, IsWritten, block_words}
use Rattle.work_region.proofs.Pasting.{pasted, part, part-behind, part-take, part-append, part-set_at, part-set_before, part-set_behind, length-pasted, take-pasted, part-pasted_at, part-pasted_before, part-pasted_behind}

-- one word of a block
pub word-written : (old new : Words) (b : Block) (i : ℕ) (word : ℤ) → IsBlockOf old b → i < b.len
    → new.carved ≡ set old.carved (b.start + i) word → new.left ≡ old.left
    → IsWritten old new b (set (block_words old b) i word)
word-written old new b i word there within carved left = record {
  count = ap length carved ∙ length-set old.carved (b.start + i) word;
  left = left;
  block = ap (part b.start b.len) carved ∙ part-set_at b.start b.len i word old.carved within;
  kept = λ c apart.
      ap (part c.start c.len) carved
      ∙ ⊎_elim
      (λ (before : end_of c ≤ b.start). part-set_behind c.start c.len (b.start + i) word old.carved (omega arith))
      (λ (behind : end_of b ≤ c.start). part-set_before c.start c.len (b.start + i) word old.carved (omega arith))
      apart;
}

-- all words of a block
pub block-written : (old new : Words) (b : Block) (words : List ℤ) → IsBlockOf old b → length words ≡ b.len
    → new.carved ≡ pasted b.start b.len words old.carved → new.left ≡ old.left
    → IsWritten old new b words
block-written old new b words there size carved left = record {
  count = ap length carved ∙ length-pasted b.start b.len words old.carved size there.inside;
  left = left;
  block = ap (part b.start b.len) carved ∙ part-pasted_at b.start b.len words old.carved size there.inside;
  kept = λ c apart.
      ap (part c.start c.len) carved
      ∙ ⊎_elim
      (λ (before : end_of c ≤ b.start). part-pasted_before c.start c.len b.start b.len words old.carved there.inside before)
      (λ (behind : end_of b ≤ c.start). part-pasted_behind c.start c.len b.start b.len words old.carved size there.inside behind)
      apart;
}

-- the first words of a block
pub front-written : (old new : Words) (b : Block) (k : ℕ) (words : List ℤ) → k ≤ b.len
    → IsWritten old new (record { start = b.start; len = k }) words
    → IsWritten old new b (words ++ drop k (block_words old b))
front-written old new b k words within to =
    let all : List ℤ = block_words new b in
    let rest : Block = record { start = b.start + k; len = b.len - k } in
    let front : take k all ≡ words = take-take k b.len (drop b.start new.carved) within ∙ to.block in
    let back : drop k all ≡ drop k (block_words old b) =
    part-behind b.start b.len k new.carved within
    ∙ to.kept rest (inr (omega arith))
    ∙ sym (part-behind b.start b.len k old.carved within) in
    record {
      count = to.count;
      left = to.left;
      block = sym (take-append-drop k all) ∙ ap₂ (λ (front : List ℤ) (back : List ℤ). front ++ back) front back;
      kept = λ c apart.
          ⊎_elim
          (λ (before : end_of c ≤ b.start). to.kept c (inl before))
          (λ (behind : end_of b ≤ c.start). to.kept c (inr (omega arith)))
          apart;
    }

-- a block behind the others
pub block-carved : (old new : Words) (b : Block) (len : ℕ) → b.start ≡ length old.carved → b.len ≡ len → new.left + len ≡ old.left
    → new.carved ≡ old.carved ++ replicate len (pos 0) → IsCarved old new len b
block-carved old new b len start size left carved =
    let zeros : List ℤ = replicate len (pos 0) in
    let count : length zeros ≡ len = length-replicate len (pos 0) in
    record {
      start = start;
      size = size;
      count = ap length carved ∙ length-append old.carved zeros ∙ ap (λ n. length old.carved + n) count;
      left = left;
      zero = ap (part b.start b.len) carved
          ∙ ap (take b.len) (drop_at old.carved zeros b.start (sym start))
          ∙ take_all b.len zeros (omega arith);
      apart = λ c there. inl (let inside = there.inside in omega arith);
      kept = λ c there. ap (part c.start c.len) carved ∙ part-append c.start c.len old.carved zeros there.inside;
    }

-- ---- the list of a region, of which the first words are carved

abbrev pub view : ℕ → List ℤ → Words
view n xs = record { carved = take n xs; left = length xs - n }

-- a list over which words were written from a place on, cut at its end
abbrev pub overlaid : ℕ → List ℤ → List ℤ → List ℤ
overlaid start words xs = take start xs ++ (words ++ drop (length words) (drop start xs))

abbrev pub lent : ℕ → ℕ → List ℤ → List ℤ → List ℤ
lent size start words xs = take size (overlaid start words xs ++ drop (length (overlaid start words xs)) xs)

pub lent-pasted : (size start len : ℕ) (words xs : List ℤ) → size ≡ length xs → length words ≡ len → start + len ≤ length xs
    → lent size start words xs ≡ pasted start len words xs
lent-pasted size start len words xs whole count within =
    let over : overlaid start words xs ≡ pasted start len words xs =
    ap (λ back. take start xs ++ (words ++ back)) (ap (λ k. drop k (drop start xs)) count ∙ drop-drop len start xs) in
    take_at (overlaid start words xs) (drop (length (overlaid start words xs)) xs) size
    (ap length over ∙ length-pasted start len words xs count within ∙ sym whole)
    ∙ over

pub view-count : (n : ℕ) (xs : List ℤ) (v : Words) → view n xs ≡ v → n ≤ length xs → length v.carved ≡ n
view-count n xs v is within = sym (ap (λ (w : Words). length w.carved) is) ∙ length-take-le n xs within

pub view-word : (n : ℕ) (xs : List ℤ) (v : Words) (b : Block) (i place : ℕ) (word : ℤ) → view n xs ≡ v → n ≤ length xs
    → IsBlockOf v b → i < b.len → place ≡ b.start + i
    → IsWritten v (view n (set xs place word)) b (set (block_words v b) i word)
view-word n xs v b i place word is within there below at_place =
    let count = view-count n xs v is within in
    let inside = there.inside in
    word-written v (view n (set xs place word)) b i word there below
    (take-set-lt n xs place word (omega arith)
    ∙ ap (λ k. set (take n xs) k word) at_place
    ∙ ap (λ (w : Words). set w.carved (b.start + i) word) is)
    (ap (λ k. k - n) (length-set xs place word) ∙ ap (λ (w : Words). w.left) is)

pub view-block : (n : ℕ) (xs : List ℤ) (v : Words) (b : Block) (words : List ℤ) → view n xs ≡ v → n ≤ length xs
    → IsBlockOf v b → length words ≡ b.len
    → IsWritten v (view n (pasted b.start b.len words xs)) b words
view-block n xs v b words is within there size =
    let count = view-count n xs v is within in
    let inside = there.inside in
    block-written v (view n (pasted b.start b.len words xs)) b words there size
    (take-pasted b.start b.len n words xs size (omega arith) within
    ∙ ap (λ (w : Words). pasted b.start b.len words w.carved) is)
    (ap (λ k. k - n) (length-pasted b.start b.len words xs size (omega arith)) ∙ ap (λ (w : Words). w.left) is)

pub view-words : (n : ℕ) (xs : List ℤ) (v : Words) (b : Block) → view n xs ≡ v → n ≤ length xs → IsBlockOf v b
    → part b.start b.len xs ≡ block_words v b
view-words n xs v b is within there =
    let count = view-count n xs v is within in
    let inside = there.inside in
    sym (part-take b.start b.len n xs (omega arith)) ∙ ap (λ (w : Words). block_words w b) is

-- zeros pasted behind what is carved
pub view-carved : (n len : ℕ) (xs zeros : List ℤ) (v : Words) → view n xs ≡ v → n + len ≤ length xs → zeros ≡ replicate len (pos 0)
    → IsCarved v (view (n + len) (pasted n len zeros xs)) len (record { start = n; len = len })
view-carved n len xs zeros v is within zero =
    let size : length zeros ≡ len = ap length zero ∙ length-replicate len (pos 0) in
    let front = length-take-le n xs (omega arith) in
    let long = length-pasted n len zeros xs size within in
    let left = ap (λ (w : Words). w.left) is in
    block-carved v (view (n + len) (pasted n len zeros xs)) (record { start = n; len = len }) len
    (sym (view-count n xs v is (omega arith))) refl (omega arith)
    (ap (take (n + len)) (sym (append_assoc (take n xs) zeros (drop (n + len) xs)))
    ∙ take_at (take n xs ++ zeros) (drop (n + len) xs) (n + len) (length-append (take n xs) zeros ∙ ap₂ ◌+◌ front size)
    ∙ ap₂ (λ (carved : List ℤ) (words : List ℤ). carved ++ words) (ap (λ (w : Words). w.carved) is) zero)

-- ---- words of any length written over those from a place on: the front sees as many of them as it has room for

pub length-overlaid : (start : ℕ) (words xs : List ℤ) → start ≤ length xs → length xs ≤ length (overlaid start words xs)
length-overlaid start words xs within =
    let all = length-append (take start xs) (words ++ drop (length words) (drop start xs)) in
    let rest = length-append words (drop (length words) (drop start xs)) in
    let front = length-take-le start xs within in
    let behind = length-drop start xs in
    let back = length-drop (length words) (drop start xs) in
    omega arith

overlaid-split : (start : ℕ) (words xs : List ℤ) → overlaid start words xs ≡ (take start xs ++ words) ++ drop (start + length words) xs
overlaid-split start words xs =
    ap (λ back. take start xs ++ (words ++ back)) (drop-drop (length words) start xs)
    ∙ sym (append_assoc (take start xs) words (drop (start + length words) xs))

front-overlaid : (n start : ℕ) (words xs ys : List ℤ) → length xs ≡ n → start ≤ n
    → take n (overlaid start words (xs ++ ys)) ≡ take n (overlaid start words xs)
front-overlaid n start words xs ys size within =
    let k = start + length words in
    let same : take start (xs ++ ys) ≡ take start xs = take-append-le start xs ys (omega arith) in
    let long : length (take start xs ++ words) ≡ k =
    length-append (take start xs) words ∙ ap (λ m. m + length words) (length-take-le start xs (omega arith)) in
    let enough = length-overlaid start words xs (omega arith) in
    ap (take n) (overlaid-split start words (xs ++ ys) ∙ ap (λ front. (front ++ words) ++ drop k (xs ++ ys)) same)
    ∙ ⊎_elim
    (λ (short : k < n).
    ap (λ back. take n ((take start xs ++ words) ++ back)) (drop-append-le k xs ys (omega arith))
    ∙ ap (take n) (sym (append_assoc (take start xs ++ words) (drop k xs) ys))
    ∙ ap (λ all. take n (all ++ ys)) (sym (overlaid-split start words xs))
    ∙ take-append-le n (overlaid start words xs) ys (omega arith))
    (λ (full : n ≤ k).
    take-append-le n (take start xs ++ words) (drop k (xs ++ ys)) (omega arith)
    ∙ sym (take-append-le n (take start xs ++ words) (drop k xs) (omega arith))
    ∙ ap (take n) (sym (overlaid-split start words xs)))
    (cases_lt k n)

take-lent : (n size start : ℕ) (words xs : List ℤ) → n ≤ size → size ≡ length xs → start ≤ size
    → take n (lent size start words xs) ≡ take n (overlaid start words xs)
take-lent n size start words xs within whole there =
    let enough = length-overlaid start words xs (omega arith) in
    take-take n size (overlaid start words xs ++ drop (length (overlaid start words xs)) xs) within
    ∙ take-append-le n (overlaid start words xs) (drop (length (overlaid start words xs)) xs) (omega arith)

length-lent : (size start : ℕ) (words xs : List ℤ) → size ≡ length xs → start ≤ size → length (lent size start words xs) ≡ size
length-lent size start words xs whole there =
    let all = overlaid start words xs in
    let enough = length-overlaid start words xs (omega arith) in
    let both = length-append all (drop (length all) xs) in
    length-take-le size (all ++ drop (length all) xs) (omega arith)

pub view-lent : (n size start : ℕ) (words xs : List ℤ) (v : Words) → view n xs ≡ v → n ≤ length xs → size ≡ length xs → start ≤ n
    → view n (lent size start words xs) ≡ record v { carved = lent (length v.carved) start words v.carved }
view-lent n size start words xs v is within whole there =
    let front = length-take-le n xs within in
    let enough = length-overlaid start words (take n xs) (omega arith) in
    let carved : take n (lent size start words xs) ≡ lent (length (take n xs)) start words (take n xs) =
    take-lent n size start words xs (omega arith) whole (omega arith)
    ∙ ap (λ all. take n (overlaid start words all)) (sym (take-append-drop n xs))
    ∙ front-overlaid n start words (take n xs) (drop n xs) front there
    ∙ sym (take-append-le n (overlaid start words (take n xs)) (drop (length (overlaid start words (take n xs))) (take n xs)) (omega arith))
    ∙ ap (λ k. lent k start words (take n xs)) (sym front) in
    let left : length (lent size start words xs) - n ≡ length xs - n =
    ap (λ k. k - n) (length-lent size start words xs whole (omega arith) ∙ whole) in
    let make : List ℤ → ℕ → Words = λ carved left. record { carved = carved; left = left } in
    ap₂ make carved left
    ∙ ap (λ (w : Words). record w { carved = lent (length w.carved) start words w.carved }) is
