use Rattle.std.proofs.Common.{◌≡◌, ◌-◌, ap, ◌∙◌, arith}
use Rattle.work_region.proofs.Pasting.{part}
use Rattle.work_region.proofs.Views.{view-words}
use Rattle.work_region.proofs.region.Region.words.Goals as goal

pub returns : goal.returns
returns c =
    let b = c.args.block.now in
    let all : c.place-end.result - b.start ≡ b.len = (let e = c.place-end.ensures in omega arith) in
    ap (λ k. part b.start k c.deref.result.now) all
    ∙ ap (part b.start b.len) c.deref.ensures.value
    ∙ view-words c.self.inside.carved c.self.inside.words.items c.args.self.now b c.self.view_is c.self.inside.within c.requires
