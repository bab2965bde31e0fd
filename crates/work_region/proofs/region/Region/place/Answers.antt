use Rattle.std.proofs.Common.{arith}
use Rattle.work_region.proofs.Views.{view-count}
use Rattle.work_region.proofs.region.Region.place.Goals as goal

pub overflow_add-result : goal.overflow_add-result
overflow_add-result c =
    let count = view-count c.self.inside.carved c.self.inside.words.items c.args.self.now c.self.view_is c.self.inside.within in
    let inside = c.requires.carved.inside in
    omega arith
