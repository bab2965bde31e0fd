use Rattle.std.proofs.Common.{refl}
use Rattle.cert_text.specs.FeasibilityText.{tension_line}
use Rattle.cert_text.proofs.Texts.{appended}
use Rattle.mono_top.proofs.between_text.append_tensions.Goals as goal

pub loop-i-preserved : goal.loop-i-preserved
loop-i-preserved c =
    appended c.loop-i.i (tension_line c.args.model.now.scale c.args.model.now.entries c.args.u.now) _ _ _ _ c.loop-i.invariant c.in_ok-append_tension.ensures refl
