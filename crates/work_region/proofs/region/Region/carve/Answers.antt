use Rattle.std.proofs.Common.{◌≡◌, ◌+◌, ◌-◌, ◌≤◌, List, ℤ, pos, length, replicate, sym, ap, ◌∙◌, subst, arith}
use Rattle.work_region.specs.Words.{Words}
use Rattle.work_region.specs.Blocks.{IsCarved}
use Rattle.work_region.proofs.Pasting.{part, length-part}
use Rattle.work_region.proofs.Views.{view, view-carved, lent-pasted}
use Rattle.work_region.proofs.region.Region.carve.Goals as goal

pub returns-clause-carved : goal.returns-clause-carved
returns-clause-carved c =
    let inside = c.self.inside in
    let n = inside.carved in
    let xs = inside.words.items in
    let len = c.args.len in
    let now = c.args.self.now in
    let zeros = c.fill.new.self in
    let left = ap (λ (w : Words). w.left) c.self.view_is in
    let there : n + len ≤ length xs =
    (let few = c.if-len-left.false in let e = c.left.ensures in let k = inside.within in omega arith) in
    let all : n + len - n ≡ len = omega arith in
    let before : length c.slice_mut.result.now ≡ len =
    ap length c.slice_mut.ensures.value ∙ ap (λ k. length (part n k xs)) all ∙ length-part n len xs there in
    let size : length zeros ≡ len = c.fill.ensures.len ∙ before in
    let filled : zeros ≡ replicate len (pos 0) = c.fill.ensures.after (λ y same. same) ∙ ap (λ k. replicate k (pos 0)) before in
    let P : List ℤ → Type 0 = λ all. IsCarved now (view (n + len) all) len (record { start = n; len = len }) in
    subst P (sym (lent-pasted inside.words.len n len zeros xs inside.words.ok.0 size there))
    (view-carved n len xs zeros now c.self.view_is there filled)
