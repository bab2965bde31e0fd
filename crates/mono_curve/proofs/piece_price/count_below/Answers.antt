use Rattle.std.proofs.Common.{sym, ◌+◌, ◌-◌, ◌/◌, ◌∙◌, arith}
use Rattle.mono_curve.proofs.Stairs.{narrowed_up, narrowed_down}
use Rattle.mono_curve.proofs.Spending.{halving_spent}
use Rattle.mono_curve.proofs.piece_price.count_below.Goals as goal

pub loop-low-preserved-then-precedes : goal.loop-low-preserved-then-precedes
loop-low-preserved-then-precedes g c =
    let below = rw c.look.ensures.item at (sym c.precedes.ensures ∙ c.if-precedes.true) in
    record {
      narrowed = narrowed_up (g.C.Looked.listing c.args.curve.now).items c.args.start c.args.end c.loop-low.low c.loop-low.high _ (g.met.C.Looked.is_list c.args.curve.now) c.loop-low.invariant.narrowed (omega arith) below;
      spent = λ d short. halving_spent (g.C.Looked.weight c.args.curve.now) d (c.loop-low.high - c.loop-low.low) (c.loop-low.high - (c.loop-low.low + (c.loop-low.high - c.loop-low.low) / 2 + 1)) c.args.looks.now c.loop-low.looks c.look.new.looks
          (omega arith) (omega arith) c.look.ensures.counted (c.loop-low.invariant.spent d short);
    }

pub loop-low-preserved : goal.loop-low-preserved
loop-low-preserved g c =
    let above = rw c.look.ensures.item at (sym c.precedes.ensures ∙ c.if-precedes.false) in
    record {
      narrowed = narrowed_down (g.C.Looked.listing c.args.curve.now).items c.args.start c.args.end c.loop-low.low c.loop-low.high _ (g.met.C.Looked.is_list c.args.curve.now) c.loop-low.invariant.narrowed (omega arith) (omega arith) above;
      spent = λ d short. halving_spent (g.C.Looked.weight c.args.curve.now) d (c.loop-low.high - c.loop-low.low) (c.loop-low.low + (c.loop-low.high - c.loop-low.low) / 2 - c.loop-low.low) c.args.looks.now c.loop-low.looks c.look.new.looks
          (omega arith) (omega arith) c.look.ensures.counted (c.loop-low.invariant.spent d short);
    }
