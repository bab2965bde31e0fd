-- The walk doesn't pass the arc of the step, so its arcs carry what they carried once the step has moved its own.
use Rattle.std.proofs.Common.{suc, sym, arith}
use Rattle.theory.specs.Circuit.{step}
use Rattle.feasible_flow.proofs.Sending.{sent-elsewhere_one}
use Rattle.feasible_flow.proofs.moving.send_around.Goals as goal

pub send_along-requires-clause-arcs_differ : goal.send_along-requires-clause-arcs_differ
send_along-requires-clause-arcs_differ c =
    rw c.send.ensures (λ i k l h. c.requires.arcs_differ (suc i) (suc k) (omega arith) (omega arith))

pub send_along-requires-clause-near : goal.send_along-requires-clause-near
send_along-requires-clause-near c =
    rw c.send.ensures
    (λ k l.
    rw (sent-elsewhere_one c.args.amount c.args.step c.args.work.now.flows (step c.args.work.now.walk k).arc.0
    (λ hit. c.requires.arcs_differ 0 (suc k) (omega arith) (omega arith) (sym hit)))
    (c.requires.near (step c.args.work.now.walk k).arc.0))
