use Rattle.std.proofs.Common.{arith}
use Rattle.theory.proofs.GroundedLaw.{length-grounded_arcs}
use Rattle.mono_top.proofs.pieces.is_too_big.Goals as goal

pub returns-else-nodes-gt-NODES_MOST : goal.returns-else-nodes-gt-NODES_MOST
returns-else-nodes-gt-NODES_MOST c =
    grind (arith, length-grounded_arcs c.args.model.now.entries, c.nodes.ensures, c.nodes-else-nodes-gt-NODES_MOST.ensures, c.arcs.ensures, c.if-nodes-gt-NODES_MOST.false)
