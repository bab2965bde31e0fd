-- The front of the block is a block of its own, and all of its words are written.
use Rattle.std.proofs.Common.{◌≡◌, ◌+◌, ◌-◌, ◌≤◌, List, ℤ, ◌++◌, length, take, drop, reverse, sym, ap, ◌∙◌, subst, arith}
use Rattle.std.proofs.lemmas.List.{length-reverse, take-take}
use Rattle.work_region.specs.declared.block.Block.{Block}
use Rattle.work_region.specs.Blocks.{IsBlockOf, IsWritten, block_words}
use Rattle.work_region.proofs.Pasting.{part, length-part}
use Rattle.work_region.proofs.Views.{view, lent, view-count, view-block, view-words, front-written, lent-pasted}
use Rattle.work_region.proofs.region.Region.reverse.Goals as goal

pub returns : goal.returns
returns c =
    let inside = c.self.inside in
    let n = inside.carved in
    let xs = inside.words.items in
    let b = c.args.block.now in
    let k = c.args.count in
    let now = c.args.self.now in
    let words = c.reverse.new.self in
    let front : Block = record { start = b.start; len = k } in
    let below = c.requires.there in
    let carved : IsBlockOf now front = record { inside = (let h = c.requires.carved.inside in omega arith) } in
    let count = view-count n xs now c.self.view_is inside.within in
    let there : b.start + k ≤ length xs = (let h = carved.inside in let w = inside.within in omega arith) in
    let all : c.place-end.result - b.start ≡ k = (let e = c.place-end.ensures in omega arith) in
    let before : c.slice_mut.result.now ≡ part b.start k xs = c.slice_mut.ensures.value ∙ ap (λ m. part b.start m xs) all in
    let turned : words ≡ reverse (part b.start k xs) = c.reverse.ensures.after ∙ ap reverse before in
    let size : length words ≡ k = ap length turned ∙ length-reverse (part b.start k xs) ∙ length-part b.start k xs there in
    let is : words ≡ reverse (take k (block_words now b)) =
    turned
    ∙ ap reverse (view-words n xs now front c.self.view_is inside.within carved
    ∙ sym (take-take k b.len (drop b.start now.carved) below)) in
    let P : List ℤ → Type 0 = λ all. IsWritten now (view n all) front words in
    let Q : List ℤ → Type 0 = λ ws. IsWritten now (view n (lent inside.words.len b.start words xs)) b (ws ++ drop k (block_words now b)) in
    subst Q is
    (front-written now (view n (lent inside.words.len b.start words xs)) b k words below
    (subst P (sym (lent-pasted inside.words.len b.start k words xs inside.words.ok.0 size there))
    (view-block n xs now front words c.self.view_is inside.within carved size)))
