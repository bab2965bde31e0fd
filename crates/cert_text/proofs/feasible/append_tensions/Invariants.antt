use Rattle.std.proofs.Common.{◌≡◌, ◌++◌}
use Rattle.cert_text.specs.CertificateText.{texts_below}
use Rattle.cert_text.specs.FeasibilityText.{tension_line}
use Rattle.cert_text.proofs.feasible.append_tensions.Given as goal

abbrev pub invariant-loop-i : goal.invariant-loop-i
invariant-loop-i l = (l.out.items ≡ l.initial.out.items ++ texts_below l.i (tension_line l.m.scale l.m.entries l.u))
