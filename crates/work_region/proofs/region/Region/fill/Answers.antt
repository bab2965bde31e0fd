use Rattle.std.proofs.Common.{◌≡◌, ◌+◌, ◌-◌, ◌≤◌, List, ℤ, length, replicate, sym, ap, ◌∙◌, subst, arith, rules, w64, SFits, to_z, of_z, to_z-of_z}
use Rattle.work_region.specs.Blocks.{IsWritten}
use Rattle.work_region.proofs.Pasting.{part, length-part}
use Rattle.work_region.proofs.Views.{view, lent, view-count, view-block, lent-pasted}
use Rattle.work_region.proofs.region.Region.fill.Goals as goal

pub returns : goal.returns
returns c =
    let inside = c.self.inside in
    let n = inside.carved in
    let xs = inside.words.items in
    let b = c.args.block.now in
    let now = c.args.self.now in
    let words = c.fill.new.self in
    let fits : SFits w64 c.args.word = search rules in
    let count = view-count n xs now c.self.view_is inside.within in
    let there : b.start + b.len ≤ length xs = (let h = c.requires.inside in let k = inside.within in omega arith) in
    let all : c.place-end.result - b.start ≡ b.len = (let e = c.place-end.ensures in omega arith) in
    let before : length c.slice_mut.result.now ≡ b.len =
    ap length c.slice_mut.ensures.value ∙ ap (λ k. length (part b.start k xs)) all ∙ length-part b.start b.len xs there in
    let size : length words ≡ b.len = c.fill.ensures.len ∙ before in
    let filled : words ≡ replicate b.len c.args.word =
    c.fill.ensures.after (λ y same. same) ∙ ap (λ k. replicate k (to_z w64 (of_z w64 c.args.word))) before ∙ ap (replicate b.len) (to_z-of_z fits) in
    let P : List ℤ → Type 0 = λ all. IsWritten now (view n all) b words in
    let Q : List ℤ → Type 0 = λ ws. IsWritten now (view n (lent inside.words.len b.start words xs)) b ws in
    subst Q filled
    (subst P (sym (lent-pasted inside.words.len b.start b.len words xs inside.words.ok.0 size there))
    (view-block n xs now b words c.self.view_is inside.within c.requires size))
