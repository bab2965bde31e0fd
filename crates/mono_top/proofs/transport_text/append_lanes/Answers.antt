use Rattle.std.proofs.Common.{refl, ◌+◌, length}
use Rattle.theory.specs.Network.{«at»}
use Rattle.cert_text.proofs.Texts.{appended}
use Rattle.mono_top.specs.Transports.{lane_line}
use Rattle.mono_top.proofs.transport_text.append_lanes.Goals as goal

pub loop-j-preserved : goal.loop-j-preserved
loop-j-preserved c =
    appended c.loop-j.j (λ j. lane_line c.args.t.now.table j («at» c.args.flows.now (length c.args.t.now.table.places + j))) _ _ _ _ c.loop-j.invariant
    c.in_ok-append_lane.ensures refl
