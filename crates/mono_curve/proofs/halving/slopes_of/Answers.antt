use Rattle.std.proofs.Common.{to_z-of_z}
use Rattle.mono_curve.proofs.ReadOff.{slopes_by_turns}
use Rattle.mono_curve.proofs.halving.slopes_of.Goals as goal

pub returns : goal.returns
returns c =
    let below = rw (to_z-of_z c.ranges.x) at c.count_below-below.ensures in
    let up_to = rw (to_z-of_z c.ranges.x) at c.count_up_to-up_to.ensures in
    slopes_by_turns c.args.items.now c.args.x c.count_below-below.result c.count_up_to-up_to.result c.slope_before.result c.slope_before-2.result c.requires below up_to c.slope_before.ensures c.slope_before-2.ensures
