use Rattle.std.proofs.Common.{refl}
use Rattle.cert_text.proofs.Texts.{appended}
use Rattle.transport_front.specs.Plan.{outside}
use Rattle.mono_top.specs.Transports.{plant_named}
use Rattle.mono_top.proofs.transport_text.append_named_plants.Goals as goal

pub loop-i-preserved : goal.loop-i-preserved
loop-i-preserved c =
    appended c.loop-i.i (plant_named c.args.t.now.table (outside c.args.side.now)) _ _ _ _ c.loop-i.invariant c.in_ok-append_named_plant.ensures refl
