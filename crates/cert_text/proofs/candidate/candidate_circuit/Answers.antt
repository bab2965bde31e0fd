use Rattle.std.proofs.Common.{◌+◌, length, ap, arith}
use Rattle.cert_text.proofs.LineEnds.{after_no_longer}
use Rattle.cert_text.proofs.candidate.candidate_circuit.Goals as goal

pub read_steps-requires : goal.read_steps-requires
read_steps-requires c =
    let left = ap length c.in_ok-rest.ensures.rest in
    let behind = ap length c.split_line.ensures.rest in
    omega (arith, left, behind, after_no_longer (c.nodes.result + c.arcs.result) c.split_line.result.1.now, after_no_longer 1 c.args.text.now)
