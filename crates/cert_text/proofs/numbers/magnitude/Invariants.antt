-- The value is that of the digits so far, without the point.
use Rattle.std.proofs.Common.{◌≡◌, ◌≤◌, ◌+◌, ◌*◌, ◌^◌, take}
use Rattle.std.specs.Str.Parse.{digits_value}
use Rattle.cert_text.proofs.Digits.{without_point}
use Rattle.cert_text.proofs.numbers.magnitude.Given as goal

abbrev pub invariant-loop-digit : goal.invariant-loop-digit
invariant-loop-digit l = (l.value ≡ digits_value 10 (without_point (take l.digit-index l.digits))) × (l.value ≤ 10 * 10 ^ 30 + 255)
