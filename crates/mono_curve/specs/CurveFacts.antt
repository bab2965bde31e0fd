-- What every curve keeps, as the traits ask it.
use Rattle.std.specs.Prelude.{◌+◌, ◌*◌, ◌≤◌, length}
use Rattle.std.proofs.Common.{lit≤}
use Rattle.theory.specs.Views.{conjugate_of}
use Rattle.theory.specs.Limits.{number_most, base_most, IsWithin}
use Rattle.theory.proofs.Bounds.{length-short, conjugate_base-within, within_more}
use Rattle.mono_curve.specs.CurveValue.{CurveValue}

pub short_list : (c : CurveValue) → length c.listing.items ≤ 4 * number_most + 5
short_list c = length-short number_most c.listing.items c.valid.is_list c.valid.items_within

pub small_base : (c : CurveValue) → IsWithin (2 * base_most) c.listing.base
small_base c = within_more base_most (2 * base_most) c.listing.base (lit≤ tt) c.valid.base_within

pub small_conjugate_base : (c : CurveValue) → IsWithin (2 * base_most) (conjugate_of c.listing).base
small_conjugate_base c =
    conjugate_base-within c.listing.items c.listing.base c.valid.is_list c.valid.items_within c.valid.base_within
