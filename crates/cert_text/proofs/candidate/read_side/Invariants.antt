use Rattle.std.proofs.Common.{◌≡◌}
use Rattle.cert_text.specs.Candidate.{left_at, IsSideRead}
use Rattle.cert_text.proofs.candidate.read_side.Given as goal

abbrev pub invariant-loop-i : goal.invariant-loop-i
invariant-loop-i l = record { rest : l.rest ≡ left_at l.m.entries l.fn.text l.i; read : IsSideRead l.m.entries l.fn.text l.i l.side.items }
