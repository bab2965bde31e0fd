use Rattle.std.proofs.Common.{◌+◌, List, refl, sym, ◌∙◌, subst, arith}
use Rattle.theory.specs.declared.ext.Ext.{Ext}
use Rattle.mono_curve.specs.CurveValue.{IsValidCurve}
use Rattle.trial_model.specs.Trial.{listed}
use Rattle.trial_model.proofs.ArcSteps.{no_ring, ring_more, ring_free}
use Rattle.trial_model.proofs.CurveLemmas.{ring_valid}
use Rattle.trial_model.proofs.ring.add_ring.Goals as goal

pub loop-position-init : goal.loop-position-init
loop-position-init c = record { ring = no_ring c.args.model.now.entries c.args.draws.now.state c.requires.arcs; scale = refl }

pub add_arc-requires-clause-curve : goal.add_arc-requires-clause-curve
add_arc-requires-clause-curve c =
    subst (λ (items : List Ext). IsValidCurve (listed items)) (sym c.ring_items-items.ensures)
    (ring_valid (1 + c.draw.result) (omega arith) (omega (arith, c.draw.ensures.below)))

pub add_arc-requires-clause-free : goal.add_arc-requires-clause-free
add_arc-requires-clause-free c =
    ring_free c.args.model.now.entries c.args.draws.now.state c.loop-position.position c.loop-position.model.entries c.loop-position.draws.state
    c.loop-position.invariant.ring (omega arith)

pub loop-position-preserved : goal.loop-position-preserved
loop-position-preserved c =
    record {
      ring =
          ring_more c.args.model.now.entries c.args.draws.now.state c.loop-position.position c.loop-position.model.entries c.add_arc.new.model.entries
          c.loop-position.draws.state c.draw.new.self.state c.draw.result c.loop-position.invariant.ring c.draw.ensures.drawn
          (rw c.ring_items-items.ensures at c.in_ok-add_arc.ensures.added) c.draw.ensures.state;
      scale = c.add_arc.ensures.scale ∙ c.loop-position.invariant.scale;
    }
