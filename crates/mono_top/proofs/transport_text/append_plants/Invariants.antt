use Rattle.std.proofs.Common.{◌≡◌, ◌++◌}
use Rattle.theory.specs.Network.{«at»}
use Rattle.cert_text.specs.CertificateText.{texts_below}
use Rattle.mono_top.specs.Transports.{plant_line}
use Rattle.mono_top.proofs.transport_text.append_plants.Given as goal

abbrev pub invariant-loop-i : goal.invariant-loop-i
invariant-loop-i l = (l.out.items ≡ l.initial.out.items ++ texts_below l.i (λ i. plant_line l.t.table i («at» l.flows i)))
