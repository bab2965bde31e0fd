use Rattle.std.proofs.Common.{length, ap, arith}
use Rattle.flow_pieces.specs.Course.{course}
use Rattle.flow_pieces.proofs.Going.{never_dry}
use Rattle.flow_pieces.proofs.walker.Walker.next_place.Goals as goal

pub unreachable-requires : goal.unreachable-requires
unreachable-requires c =
    let long = ap length c.steps-steps.ensures.items in
    never_dry c.args.net.now (course c.args.self.now) c.args.node.0 c.requires.course c.requires.some c.requires.node c.requires.ends
    (λ k l. c.loop-k.invariant k (omega arith))
