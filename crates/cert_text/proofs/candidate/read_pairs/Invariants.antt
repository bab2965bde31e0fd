use Rattle.std.proofs.Common.{◌≡◌}
use Rattle.cert_text.specs.Candidate.{after, ArePairsRead}
use Rattle.cert_text.proofs.candidate.read_pairs.Given as goal

abbrev pub invariant-loop-i : goal.invariant-loop-i
invariant-loop-i l = record { rest : l.rest ≡ after l._i l.fn.text; read : ArePairsRead l.fn.text l._i l.u.items l.x.items }
