use Rattle.std.proofs.Common.{◌≡◌, sym, ◌∙◌, subst, ℤ, arith, to_z-of_z}
use Rattle.theory.specs.declared.ext.Ext.TheVariants.{At}
use Rattle.theory.specs.Ends.{is_below}
use Rattle.mono_curve.proofs.Stairs.{turned_after, turned_at}
use Rattle.curve_views.proofs.dual.slopes_up_to.Goals as goal
use Rattle.curve_views.proofs.dual.slopes_up_to.Goals.{else-below-len-via-then-below-len+else-not-precedes, else-below-len-via-else-below-len}

pub returns-then-not-precedes : goal.returns-then-not-precedes
returns-then-not-precedes g c =
    let told = subst (λ (z : ℤ). c.precedes.result ≡ is_below (At z) c.item.result) (to_z-of_z c.ranges.v) c.precedes.ensures in
    turned_after (g.C.Listed.listing c.args.curve.now).items 1 (At c.args.v) c.args.below (g.met.C.Listed.is_list c.args.curve.now) c.requires (omega arith)
    (rw (← c.item.ensures) (sym told ∙ c.if-not-precedes.true))

pub returns-else-below-len : goal.returns-else-below-len
returns-else-below-len g c =
    turned_at (g.C.Listed.listing c.args.curve.now).items 1 (At c.args.v) c.args.below (g.met.C.Listed.is_list c.args.curve.now) c.requires
    (λ inside. elim c.else-below-len.branch [
      | else-below-len-via-then-below-len+else-not-precedes w ↦
          (let told = subst (λ (z : ℤ). w.precedes.result ≡ is_below (At z) w.item.result) (to_z-of_z c.ranges.v) w.precedes.ensures in
          rw (← w.item.ensures) (sym told ∙ w.if-not-precedes.false))
      | else-below-len-via-else-below-len w ↦ absurd (omega (arith, w.if-below-len.false))
    ])
