use Rattle.std.proofs.Common.{◌≡◌, ◌+◌, ◌-◌, ◌≤◌, ℕ, length}
use Rattle.cert_text.specs.Candidate.{IsFirstDifference}
use Rattle.cert_text.proofs.lines.first_difference.Given as goal

abbrev pub invariant-loop-byte : goal.invariant-loop-byte
invariant-loop-byte l =
    let left = l.byte-iterator.a.rest.now in
    let right = l.byte-iterator.b.rest.now in
    record {
      from_one : 1 ≤ l.line;
      even : length l.other + length left ≡ length l.text + length right;
      room : l.line + length left ≤ length l.text + 1;
      same : right ≡ left → l.other ≡ l.text;
      apart : (k : ℕ) → IsFirstDifference left right k → IsFirstDifference l.text l.other (k + (l.line - 1));
    }
