use Rattle.std.proofs.Common.{to_z-of_z}
use Rattle.mono_curve.proofs.ReadOff.{range_by_turns}
use Rattle.mono_curve.proofs.halving.range_of.Goals as goal

pub returns : goal.returns
returns c =
    let below = rw (to_z-of_z c.ranges.v) at c.count_below-below.ensures in
    let up_to = rw (to_z-of_z c.ranges.v) at c.count_up_to-up_to.ensures in
    range_by_turns c.args.items.now c.args.v c.count_below-below.result c.count_up_to-up_to.result c.requires below up_to
