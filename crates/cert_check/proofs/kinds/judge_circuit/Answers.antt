use Rattle.cert_check.proofs.Nets.{fault_of_net}
use Rattle.cert_check.proofs.kinds.judge_circuit.Goals as goal

pub returns-in-Some-is_circuit : goal.returns-in-Some-is_circuit
returns-in-Some-is_circuit c = (
  record {
    one_each = c.requires.flows.one_each;
    conserved = c.in_default.ensures.none;
    in_domains = c.in_default-first_out_of_capacity.ensures.none;
  },
  fault_of_net c.net.result.now c.args.g.now.network c.args.walk.now c.in-Some-is_circuit.number c.net.ensures c.in-Some-is_circuit.ensures.fault,
)
