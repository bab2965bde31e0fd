use Rattle.std.proofs.Common.{◌≡◌, ◌+◌, ◌-◌, List, ℤ, ◌++◌, length, take, drop, sym, ap, ◌∙◌, subst, arith}
use Rattle.std.proofs.lemmas.List.{append_assoc}
use Rattle.work_region.specs.Blocks.{IsWritten, block_words}
use Rattle.work_region.proofs.Pasting.{pasted, part, length-part}
use Rattle.work_region.proofs.Views.{view, view-count, view-block, view-words}
use Rattle.work_region.proofs.region.Region.copy_between.Goals as goal

pub returns : goal.returns
returns c =
    let inside = c.self.inside in
    let n = inside.carved in
    let xs = inside.words.items in
    let from = c.args.from.now in
    let to = c.args.to.now in
    let now = c.args.self.now in
    let words = block_words now from in
    let count = view-count n xs now c.self.view_is inside.within in
    let is : part from.start from.len xs ≡ words = view-words n xs now from c.self.view_is inside.within c.requires.from_carved in
    let same = c.requires.same_length in
    let end = c.place-end.ensures in
    let ws : List ℤ = drop from.start xs in
    let k : c.place-end.result - from.start ≡ from.len = omega arith in
    let copied : c.copy_within.new.self.items ≡ pasted to.start to.len words xs =
    c.copy_within.ensures.items
    ∙ append_assoc (take to.start xs) (take (c.place-end.result - from.start) ws) (drop (to.start + (c.place-end.result - from.start)) xs)
    ∙ ap (λ m. take to.start xs ++ (take m ws ++ drop (to.start + m) xs)) k
    ∙ ap (λ words. take to.start xs ++ (words ++ drop (to.start + from.len) xs)) is
    ∙ ap (λ m. take to.start xs ++ (words ++ drop (to.start + m) xs)) same in
    let size : length words ≡ to.len = length-part from.start from.len now.carved c.requires.from_carved.inside ∙ same in
    let P : List ℤ → Type 0 = λ all. IsWritten now (view n all) to words in
    subst P (sym copied) (view-block n xs now to words c.self.view_is inside.within c.requires.to_carved size)
