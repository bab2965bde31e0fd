-- What a curve is, seen from outside: its list and base, and that they are those of a curve within the limits.
use Rattle.std.specs.Prelude.{◌≤◌, length}
use Rattle.theory.specs.CurveList.{IsCurveList, Listing}
use Rattle.theory.specs.Limits.{items_most, AreWithin, number_most, base_most, IsWithin}

pub record IsValidCurve (c : Listing) : Type 0 where
  pub is_list : IsCurveList c.items
  pub short : length c.items ≤ items_most
  pub items_within : AreWithin number_most c.items
  pub base_within : IsWithin base_most c.base

pub record CurveValue : Type 0 where
  pub listing : Listing
  pub valid : IsValidCurve listing
