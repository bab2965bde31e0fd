use Rattle.std.proofs.Common.{ap}
use Rattle.theory.specs.Circuit.{step}
use Rattle.flow_pieces.specs.Pieces.{piece_at}
use Rattle.cert_text.specs.CertificateText.{step_line}
use Rattle.cert_text.proofs.Texts.{appended}
use Rattle.mono_top.proofs.pieces.append_steps.Goals as goal

pub loop-i-preserved : goal.loop-i-preserved
loop-i-preserved c =
    appended c.loop-i.i (λ i. step_line c.args.model.now.entries (step (piece_at c.args.list.now c.args.k).walk i)) _ _ _ _ c.loop-i.invariant c.in_ok-append_step.ensures
    (ap (step_line c.args.model.now.entries) c.step.ensures)
