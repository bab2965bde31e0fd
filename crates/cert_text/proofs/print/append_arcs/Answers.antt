use Rattle.std.proofs.Common.{ap, ◌+◌, length}
use Rattle.cert_text.specs.CertificateText.{flow_line}
use Rattle.cert_text.proofs.Texts.{appended}
use Rattle.cert_text.proofs.print.append_arcs.Goals as goal

pub loop-j-preserved : goal.loop-j-preserved
loop-j-preserved c =
    appended c.loop-j.j (λ j. flow_line c.args.m.now.scale c.args.m.now.entries c.args.x.now (length c.args.m.now.entries.nodes + j)) _ _ _ _ c.loop-j.invariant c.in_ok-append_flow.ensures
    (ap (λ n. flow_line c.args.m.now.scale c.args.m.now.entries c.args.x.now (n + c.loop-j.j)) c.nodes-nodes.ensures)
