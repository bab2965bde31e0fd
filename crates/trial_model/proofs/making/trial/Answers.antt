use Rattle.std.proofs.Common.{length, ap, ◌∙◌}
use Rattle.theory.specs.Grounded.{Entries}
use Rattle.trial_model.proofs.TrialLaws.{counts}
use Rattle.trial_model.proofs.making.trial.Goals as goal

pub add_ring-requires-clause-nodes : goal.add_ring-requires-clause-nodes
add_ring-requires-clause-nodes c = ap (λ (m : Entries). length m.nodes) c.in_ok-add_nodes.ensures.nodes ∙ (counts c.args.number).0

pub add_chords-requires-clause-nodes : goal.add_chords-requires-clause-nodes
add_chords-requires-clause-nodes c =
    ap (λ (m : Entries). length m.nodes) c.in_ok-add_ring.ensures.arcs
    ∙ ap (λ (m : Entries). length m.nodes) c.in_ok-add_nodes.ensures.nodes ∙ (counts c.args.number).0
