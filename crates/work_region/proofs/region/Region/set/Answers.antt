use Rattle.std.proofs.Common.{rules, sym, subst, set, w64, SFits, to_z-of_z, ℤ}
use Rattle.work_region.specs.Blocks.{IsWritten, block_words}
use Rattle.work_region.proofs.Views.{view, view-word}
use Rattle.work_region.proofs.region.Region.set.Goals as goal

pub returns : goal.returns
returns c =
    let inside = c.self.inside in
    let b = c.args.block.now in
    let now = c.args.self.now in
    let fits : SFits w64 c.args.word = search rules in
    let P : ℤ → Type 0 =
    λ word. IsWritten now (view inside.carved (set inside.words.items c.place-place.result word)) b (set (block_words now b) c.args.i c.args.word) in
    subst P (sym (to_z-of_z fits))
    (view-word inside.carved inside.words.items now b c.args.i c.place-place.result c.args.word c.self.view_is inside.within
    c.requires.carved c.requires.there c.place-place.ensures)
