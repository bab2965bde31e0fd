use Rattle.std.proofs.Common.{◌≡◌, ◌+◌, ◌++◌, length}
use Rattle.theory.specs.Network.{«at»}
use Rattle.cert_text.specs.CertificateText.{texts_below}
use Rattle.mono_top.specs.Transports.{lane_line}
use Rattle.mono_top.proofs.transport_text.append_lanes.Given as goal

abbrev pub invariant-loop-j : goal.invariant-loop-j
invariant-loop-j l = (l.out.items ≡ l.initial.out.items ++ texts_below l.j (λ j. lane_line l.t.table j («at» l.flows (length l.t.table.places + j))))
