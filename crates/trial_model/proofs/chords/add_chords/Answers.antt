use Rattle.std.proofs.Common.{◌≡◌, refl, List, length, sym, ap, ◌∙◌, subst, arith}
use Rattle.theory.specs.declared.ext.Ext.{Ext}
use Rattle.theory.specs.Grounded.{Entries}
use Rattle.mono_curve.specs.CurveValue.{IsValidCurve}
use Rattle.trial_model.specs.Trial.{listed}
use Rattle.trial_model.proofs.ArcSteps.{no_chords, chords_more, chord_free, apart}
use Rattle.trial_model.proofs.CurveLemmas.{chord_items_valid}
use Rattle.trial_model.proofs.chords.add_chords.Goals as goal

pub loop-position-init : goal.loop-position-init
loop-position-init c = record { chords = no_chords c.args.model.now.entries c.args.draws.now.state; scale = refl }

pub add_arc-requires-clause-tail : goal.add_arc-requires-clause-tail
add_arc-requires-clause-tail c =
    let nodes : length c.loop-position.model.entries.nodes ≡ 200 = ap (λ (m : Entries). length m.nodes) c.loop-position.invariant.chords.entries_are ∙ c.requires.nodes in
    omega (arith, nodes, (apart c.loop-position.draws.state).from_there, c.draw_chord.ensures.from)

pub add_arc-requires-clause-curve : goal.add_arc-requires-clause-curve
add_arc-requires-clause-curve c =
    subst (λ (items : List Ext). IsValidCurve (listed items)) (sym c.draw_chord.ensures.items) (chord_items_valid c.loop-position.draws.state)

pub add_arc-requires-clause-free : goal.add_arc-requires-clause-free
add_arc-requires-clause-free c =
    rw (c.draw_chord.ensures.from, c.draw_chord.ensures.to)
    (chord_free c.args.model.now.entries c.args.draws.now.state c.loop-position.position c.loop-position.model.entries c.loop-position.draws.state
    c.requires.arcs.0 c.loop-position.invariant.chords c.requires.arcs.1 (omega arith) c.loop-position.draws.state)

pub loop-position-preserved : goal.loop-position-preserved
loop-position-preserved c =
    record {
      chords =
          chords_more c.args.model.now.entries c.args.draws.now.state c.loop-position.position c.loop-position.model.entries c.add_arc.new.model.entries
          c.loop-position.draws.state c.draw_chord.new.draws.state c.loop-position.invariant.chords
          (rw (c.draw_chord.ensures.from, c.draw_chord.ensures.to, c.draw_chord.ensures.items) at c.in_ok-add_arc.ensures.added)
          c.draw_chord.ensures.state;
      scale = c.add_arc.ensures.scale ∙ c.loop-position.invariant.scale;
    }
