use Rattle.std.proofs.Common.{arith}
use Rattle.trial_model.proofs.NodeSteps.{next_free}
use Rattle.trial_model.proofs.nodes.add_nodes.Goals as goal

pub add_node-requires-clause-free : goal.add_node-requires-clause-free
add_node-requires-clause-free c = next_free c.args.draws.now.state 199 c.add_drawn_nodes.new.model.entries (omega arith) c.in_ok-sum.ensures.nodes
