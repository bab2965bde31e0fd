use Rattle.std.proofs.Common.{◌≡◌}
use Rattle.cert_text.specs.Candidate.{after, AreFlowsRead}
use Rattle.cert_text.proofs.candidate.read_flows.Given as goal

abbrev pub invariant-loop-j : goal.invariant-loop-j
invariant-loop-j l = record { rest : l.rest ≡ after l._j l.fn.text; read : AreFlowsRead l.fn.text l._j l.initial.x.items l.x.items }
