use Rattle.std.proofs.Common.{ap, ◌+◌, length}
use Rattle.cert_text.specs.CertificateText.{flow_line}
use Rattle.cert_text.proofs.Texts.{appended}
use Rattle.mono_top.proofs.between_text.append_arcs.Goals as goal

pub loop-j-preserved : goal.loop-j-preserved
loop-j-preserved c =
    appended c.loop-j.j (λ j. flow_line c.args.model.now.scale c.args.model.now.entries c.args.flows.now (length c.args.model.now.entries.nodes + j)) _ _ _ _ c.loop-j.invariant c.in_ok-append_flow.ensures
    (ap (λ n. flow_line c.args.model.now.scale c.args.model.now.entries c.args.flows.now (n + c.loop-j.j)) c.nodes-nodes.ensures)
