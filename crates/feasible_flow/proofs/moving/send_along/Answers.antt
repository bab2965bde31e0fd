-- What is still to be sent, from the k-th step on, makes of the flows at hand what the whole walk makes of the flows at the beginning:
-- a step more takes the first of those that are left. The walk passes no arc twice, so the arcs of the steps that are left carry what they
-- carried, and the amount fits on top of it.
use Rattle.std.proofs.Common.{◌≡◌, ◌<◌, length, sym, ap, ◌∙◌, arith}
use Rattle.theory.specs.declared.network.Step.{Step}
use Rattle.theory.specs.Network.{«at»}
use Rattle.theory.specs.Circuit.{step}
use Rattle.theory.specs.Limits.{IsWithin}
use Rattle.theory.specs.Sent.{sent}
use Rattle.painted_search.specs.Room.{Room}
use Rattle.feasible_flow.specs.Violations.{movable_most}
use Rattle.feasible_flow.proofs.Sending.{sends-fits, sent-on, sent-elsewhere_one}
use Rattle.feasible_flow.proofs.moving.send_along.Goals as goal

pub send-requires-clause-fits : goal.send-requires-clause-fits
send-requires-clause-fits c =
    let k = c.loop-k.k in
    let same = c.loop-k.invariant.same in
    let same_length = ap length same.walk in
    let l : k < length c.args.work.now.walk = omega (arith, c.loop-k-test.true, c.walk_len-k-end.ensures, same_length) in
    let arc = ap (λ (t : Step). t.arc.0) c.walk_step-step.ensures ∙ ap (λ walk. (step walk k).arc.0) same.walk in
    let near : IsWithin movable_most («at» c.loop-k.work.flows (step c.args.work.now.walk k).arc.0) =
    rw (c.loop-k.invariant.ahead k (omega arith) l) (c.requires.near k l) in
    sends-fits movable_most c.args.amount _ _ (rw arc near) (omega (arith, c.requires.amount_near))

pub loop-k-preserved : goal.loop-k-preserved
loop-k-preserved c =
    let k = c.loop-k.k in
    let w = c.loop-k.work in
    let same = c.loop-k.invariant.same in
    let s = c.walk_step-step.result in
    let same_length = ap length same.walk in
    let l : k < length w.walk = omega (arith, c.loop-k-test.true, c.walk_len-k-end.ensures, same_length) in
    let arc = ap (λ (t : Step). t.arc.0) c.walk_step-step.ensures ∙ ap (λ walk. (step walk k).arc.0) same.walk in
    let flows : c.send.new.work.flows ≡ sent c.args.amount s w.flows = ap (λ (v : Room). v.flows) c.send.ensures in
    let walk : c.send.new.work.walk ≡ w.walk = ap (λ (v : Room). v.walk) c.send.ensures in
    record {
      left = rw (flows, walk) (sent-on c.args.amount w.walk k w.flows s l c.walk_step-step.ensures ∙ c.loop-k.invariant.left);
      ahead = λ i later there.
          rw flows
          (sent-elsewhere_one c.args.amount s w.flows (step c.args.work.now.walk i).arc.0
          (λ hit. c.requires.arcs_differ k i (omega arith) there (sym arc ∙ sym hit)) ∙ c.loop-k.invariant.ahead i (omega arith) there);
      same = record {
        nodes = ap (λ (v : Room). v.nodes) c.send.ensures ∙ same.nodes;
        arcs = ap (λ (v : Room). v.arcs) c.send.ensures ∙ same.arcs;
        potentials = ap (λ (v : Room). v.potentials) c.send.ensures ∙ same.potentials;
        walk = walk ∙ same.walk;
      };
    }
