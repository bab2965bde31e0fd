use Rattle.std.proofs.Common.{refl}
use Rattle.theory.specs.Network.{«at»}
use Rattle.cert_text.proofs.Texts.{appended}
use Rattle.mono_top.specs.Transports.{plant_line}
use Rattle.mono_top.proofs.transport_text.append_plants.Goals as goal

pub loop-i-preserved : goal.loop-i-preserved
loop-i-preserved c =
    appended c.loop-i.i (λ i. plant_line c.args.t.now.table i («at» c.args.flows.now i)) _ _ _ _ c.loop-i.invariant c.in_ok-append_plant.ensures refl
