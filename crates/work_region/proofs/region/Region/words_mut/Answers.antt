use Rattle.std.proofs.Common.{◌≡◌, ◌-◌, ◌≤◌, ap, ◌∙◌, refl, arith}
use Rattle.work_region.proofs.Pasting.{part}
use Rattle.work_region.proofs.Views.{view-count, view-words, view-lent}
use Rattle.work_region.proofs.region.Region.words_mut.Goals as goal

pub returns : goal.returns
returns c =
    let inside = c.self.inside in
    let n = inside.carved in
    let xs = inside.words.items in
    let b = c.args.block.now in
    let now = c.args.self.now in
    let count = view-count n xs now c.self.view_is inside.within in
    let all : c.place-end.result - b.start ≡ b.len = (let e = c.place-end.ensures in omega arith) in
    let within : b.start ≤ n = (let h = c.requires.inside in omega arith) in (
      (refl, λ w. view-lent n inside.words.len b.start w xs now c.self.view_is inside.within inside.words.ok.0 within),
      record {
        writes_back = tt;
        words = c.slice_mut.ensures.value
            ∙ ap (λ k. part b.start k xs) all
            ∙ view-words n xs now b c.self.view_is inside.within c.requires;
      },
    )
