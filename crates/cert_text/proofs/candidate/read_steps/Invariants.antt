use Rattle.std.proofs.Common.{◌≡◌, ◌+◌, ◌<◌, ◌≤◌, ℕ, length}
use Rattle.theory.specs.Circuit.{step}
use Rattle.cert_text.specs.Candidate.{after, line_at, IsStepRead}
use Rattle.cert_text.proofs.candidate.read_steps.Given as goal

abbrev pub invariant-loop-step : goal.invariant-loop-step
invariant-loop-step l = record {
  rest : l.rest ≡ after (length l.walk.items) l.fn.text;
  room : length l.walk.items + length l.rest ≤ length l.fn.text;
  read : (k : ℕ) → k < length l.walk.items → IsStepRead l.m.entries (line_at l.fn.text k) (step l.walk.items k);
}

abbrev pub decreases-loop-step : goal.decreases-loop-step
decreases-loop-step l = length l.rest
