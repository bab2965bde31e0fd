use Rattle.std.proofs.Common.{◌≡◌, ◌++◌}
use Rattle.cert_text.specs.CertificateText.{texts_below, flow_line}
use Rattle.cert_text.proofs.print.append_supplies.Given as goal

abbrev pub invariant-loop-i : goal.invariant-loop-i
invariant-loop-i l = (l.out.items ≡ l.initial.out.items ++ texts_below l.i (flow_line l.m.scale l.m.entries l.x))
