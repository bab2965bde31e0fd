use Rattle.std.proofs.Common.{◌≡◌, ◌++◌}
use Rattle.cert_text.specs.CertificateText.{texts_below, flow_line}
use Rattle.mono_top.proofs.between_text.append_supplies.Given as goal

abbrev pub invariant-loop-i : goal.invariant-loop-i
invariant-loop-i l = (l.out.items ≡ l.initial.out.items ++ texts_below l.i (flow_line l.model.scale l.model.entries l.flows))
