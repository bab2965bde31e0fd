use Rattle.std.proofs.Common.{◌≡◌}
use Rattle.trial_model.proofs.NodeSteps.{AreDrawn}
use Rattle.trial_model.proofs.nodes.add_drawn_nodes.Given as goal

abbrev pub invariant-loop-position : goal.invariant-loop-position
invariant-loop-position l = record {
  drawn : AreDrawn l.initial.draws.state l.position l.model.entries l.draws.state l.sum;
  scale : l.model.scale ≡ l.initial.model.scale;
}
