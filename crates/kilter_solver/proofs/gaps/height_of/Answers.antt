use Rattle.std.proofs.Common.{FitsSigned}
use Rattle.std.specs.Int.{w64}
use Rattle.std.proofs.lemmas.Int.{to_z-of_z}
use Rattle.kilter_solver.proofs.Heights.{never_missing}
use Rattle.kilter_solver.proofs.gaps.height_of.Goals as goal

pub unreachable-requires : goal.unreachable-requires
unreachable-requires c =
    let fits : FitsSigned w64 c.args.value = c.ranges.value in
    never_missing c.args.values.now c.args.value c.in-Err.field-0 c.requires.sorted c.requires.there (simp to_z-of_z at c.in-Err.ensures.position)
