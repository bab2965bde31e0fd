use Rattle.std.proofs.Common.{sym, ◌∙◌, arith}
use Rattle.mono_curve.proofs.Stairs.{narrowed_up, narrowed_down}
use Rattle.mono_curve.proofs.halving.count_below.Goals as goal

pub loop-low-preserved-then-precedes : goal.loop-low-preserved-then-precedes
loop-low-preserved-then-precedes c =
    narrowed_up c.args.items.now c.args.start c.args.end c.loop-low.low c.loop-low.high _ c.requires.list c.loop-low.invariant (omega arith) (sym c.precedes.ensures ∙ c.if-precedes.true)

pub loop-low-preserved : goal.loop-low-preserved
loop-low-preserved c =
    narrowed_down c.args.items.now c.args.start c.args.end c.loop-low.low c.loop-low.high _ c.requires.list c.loop-low.invariant (omega arith) (omega arith) (sym c.precedes.ensures ∙ c.if-precedes.false)
