use Rattle.std.proofs.Common.{sym, ◌∙◌, arith}
use Rattle.mono_curve.proofs.Stairs.{turned_after, turned_at}
use Rattle.mono_curve.proofs.halving.count_up_to.Goals as goal
use Rattle.mono_curve.proofs.halving.count_up_to.Goals.{else-below-items-via-then-below-items+else-not-precedes, else-below-items-via-else-below-items}

pub returns-then-not-precedes : goal.returns-then-not-precedes
returns-then-not-precedes c =
    turned_after c.args.items.now c.args.start c.args.end c.args.below c.requires.list c.requires.below c.if-below-items.true (sym c.precedes.ensures ∙ c.if-not-precedes.true)

pub returns-else-below-items : goal.returns-else-below-items
returns-else-below-items c =
    turned_at c.args.items.now c.args.start c.args.end c.args.below c.requires.list c.requires.below
    (λ inside. elim c.else-below-items.branch [
      | else-below-items-via-then-below-items+else-not-precedes w ↦ sym w.precedes.ensures ∙ w.if-not-precedes.false
      | else-below-items-via-else-below-items w ↦ absurd (omega (arith, w.if-below-items.false))
    ])
