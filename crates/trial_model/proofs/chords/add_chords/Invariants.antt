use Rattle.std.proofs.Common.{◌≡◌}
use Rattle.trial_model.proofs.ArcSteps.{AreChordsSoFar}
use Rattle.trial_model.proofs.chords.add_chords.Given as goal

abbrev pub invariant-loop-position : goal.invariant-loop-position
invariant-loop-position l = record {
  chords : AreChordsSoFar l.initial.model.entries l.initial.draws.state l.position l.model.entries l.draws.state;
  scale : l.model.scale ≡ l.initial.model.scale;
}
