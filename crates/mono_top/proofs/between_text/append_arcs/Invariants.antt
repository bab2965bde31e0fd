use Rattle.std.proofs.Common.{◌≡◌, ◌++◌, ◌+◌, length}
use Rattle.cert_text.specs.CertificateText.{texts_below, flow_line}
use Rattle.mono_top.proofs.between_text.append_arcs.Given as goal

abbrev pub invariant-loop-j : goal.invariant-loop-j
invariant-loop-j l = (l.out.items ≡ l.initial.out.items ++ texts_below l.j (λ j. flow_line l.model.scale l.model.entries l.flows (length l.model.entries.nodes + j)))
