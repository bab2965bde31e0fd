use Rattle.std.proofs.Common.{to_z-of_z}
use Rattle.theory.proofs.pricing.fits_piece.Goals as goal

pub returns-then-begins_below : goal.returns-then-begins_below
returns-then-begins_below c =
    let left = rw (to_z-of_z c.ranges.x, to_z-of_z c.ranges.v) at c.begins_below.ensures in
    let right = rw (to_z-of_z c.ranges.x, to_z-of_z c.ranges.v) at c.ends_above.ensures in
    (λ fits. record { begins_below = left.0 c.if-begins_below.true; ends_above = right.0 fits }, λ fits. right.1 fits.ends_above)
