use Rattle.theory.specs.Network.{«at»}
use Rattle.net_incidence.specs.Graph.{bare}
use Rattle.flow_pieces.specs.Splitting.{piece_of}
use Rattle.flow_pieces.proofs.Splits.{goes_on-more, stays_empty, falls}
use Rattle.flow_pieces.proofs.splitting.exhaust.Goals as goal

pub loop-step-preserved : goal.loop-step-preserved
loop-step-preserved c =
    let net = bare c.args.net.now in
    let rest = «at» c.loop-step.walker.rest.items in
    let left = «at» c.next_piece.new.self.rest.items in
    let p = piece_of c.in_ok-piece.piece in
    let piece = c.in_ok-piece.ensures.piece in
    let takes = c.in_ok-piece.ensures.left in
    record {
      course = c.in_ok-piece.ensures.course;
      goes_on = λ x before.
          goes_on-more net rest left p piece takes c.loop-step.list _ c.in_ok-push.ensures x (c.loop-step.invariant.goes_on x before);
      stays_empty = λ j none. stays_empty net rest left p piece takes j (c.loop-step.invariant.stays_empty j none);
    }

pub loop-step-smaller : goal.loop-step-smaller
loop-step-smaller c =
    falls (bare c.args.net.now) («at» c.loop-step.walker.rest.items) («at» c.next_piece.new.self.rest.items) (piece_of c.in_ok-piece.piece)
    c.in_ok-piece.ensures.piece c.in_ok-piece.ensures.left
