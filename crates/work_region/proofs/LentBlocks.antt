-- Blocks after one was lent. Words of any length may come back: those before the lent block stay, and the last block of all takes as
-- many of them as it has room for.
use Rattle.std.proofs.Common.{◌≡◌, ◌≤◌, ℤ, List, ◌++◌, length, take, drop, sym, ap, ◌∙◌, length-drop, length-append, arith}
use Rattle.std.proofs.lemmas.List.{append_assoc, take-take, take_all, drop_at, drop-take, take-append-le, length-take-le}
use Rattle.work_region.specs.declared.block.Block.{Block}
use Rattle.work_region.specs.Words.{Words}
use Rattle.work_region.specs.Blocks.{end_of, block_words}
use Rattle.work_region.specs.Lending.{with_words_from}
use Rattle.work_region.proofs.Pasting.{part, part-take, part-append}
use Rattle.work_region.proofs.Views.{overlaid, length-overlaid}

pub lent-before : (w : Words) (b c : Block) (words : List ℤ) → end_of c ≤ b.start → b.start ≤ length w.carved
    → block_words (with_words_from w b words) c ≡ block_words w c
lent-before w b c words before there =
    let xs = w.carved in
    let over = overlaid b.start words xs in
    let enough = length-overlaid b.start words xs there in
    let front = length-take-le b.start xs there in
    part-take c.start c.len (length xs) (over ++ drop (length over) xs) (omega arith)
    ∙ part-append c.start c.len over (drop (length over) xs) (omega arith)
    ∙ part-append c.start c.len (take b.start xs) (words ++ drop (length words) (drop b.start xs)) (omega arith)
    ∙ part-take c.start c.len b.start xs before

pub lent-last : (w : Words) (b : Block) (words : List ℤ) → end_of b ≡ length w.carved
    → block_words (with_words_from w b words) b ≡ take b.len (words ++ drop (length words) (block_words w b))
lent-last w b words last =
    let xs = w.carved in
    let back : List ℤ = drop b.start xs in
    let size : length back ≡ b.len = (let e = length-drop b.start xs in omega arith) in
    let came : List ℤ = words ++ drop (length words) back in
    let over = overlaid b.start words xs in
    let rest : List ℤ = drop (length over) xs in
    let front : length (take b.start xs) ≡ b.start = length-take-le b.start xs (omega arith) in
    let enough : b.len ≤ length came =
    (let e = length-append words (drop (length words) back) in let f = length-drop (length words) back in omega arith) in
    ap (λ k. part b.start b.len (take k (over ++ rest))) (sym last)
    ∙ ap (take b.len) (drop-take b.start b.len (over ++ rest))
    ∙ take-take b.len b.len (drop b.start (over ++ rest)) (omega arith)
    ∙ ap (part b.start b.len) (append_assoc (take b.start xs) came rest)
    ∙ ap (take b.len) (drop_at (take b.start xs) (came ++ rest) b.start front)
    ∙ take-append-le b.len came rest enough
    ∙ ap (λ all. take b.len (words ++ drop (length words) all)) (sym (take_all b.len back (omega arith)))
