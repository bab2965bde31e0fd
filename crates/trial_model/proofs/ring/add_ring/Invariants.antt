use Rattle.std.proofs.Common.{◌≡◌}
use Rattle.trial_model.proofs.ArcSteps.{IsRingSoFar}
use Rattle.trial_model.proofs.ring.add_ring.Given as goal

abbrev pub invariant-loop-position : goal.invariant-loop-position
invariant-loop-position l = record {
  ring : IsRingSoFar l.initial.model.entries l.initial.draws.state l.position l.model.entries l.draws.state;
  scale : l.model.scale ≡ l.initial.model.scale;
}
