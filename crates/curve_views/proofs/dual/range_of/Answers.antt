use Rattle.std.proofs.Common.{to_z-of_z}
use Rattle.mono_curve.proofs.ReadOff.{range_by_turns}
use Rattle.curve_views.proofs.dual.range_of.Goals as goal

pub returns : goal.returns
returns g c =
    let below = rw (to_z-of_z c.ranges.v) at c.slopes_below-below.ensures in
    let up_to = rw (to_z-of_z c.ranges.v) at c.slopes_up_to-up_to.ensures in
    rw (c.item.ensures, c.item-2.ensures)
    (range_by_turns (g.C.Listed.listing c.args.curve.now).items c.args.v c.slopes_below-below.result c.slopes_up_to-up_to.result (g.met.C.Listed.is_list c.args.curve.now) below up_to)
