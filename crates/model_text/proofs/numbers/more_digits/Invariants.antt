-- The digits that are left, read after the value so far, give the value of all.
use Rattle.std.proofs.Common.{◌≡◌, ◌+◌, ◌≤◌, drop}
use Rattle.std.specs.Str.{all_ascii_digits}
use Rattle.theory.specs.Limits.{number_most}
use Rattle.model_text.specs.NearNumbers.{near_after}
use Rattle.model_text.proofs.numbers.more_digits.Given as goal

abbrev pub invariant-loop-digit : goal.invariant-loop-digit
invariant-loop-digit l = record {
  most : l.value ≤ number_most + 1;
  same_test : all_ascii_digits (drop l.digit-index l.digits) ≡ all_ascii_digits l.digits;
  same_value : near_after l.value (drop l.digit-index l.digits) ≡ near_after l.fn.before l.digits;
}
