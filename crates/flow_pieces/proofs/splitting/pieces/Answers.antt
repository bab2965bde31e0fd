use Rattle.std.proofs.Common.{arith}
use Rattle.theory.specs.Network.{«at»}
use Rattle.net_incidence.specs.Graph.{bare}
use Rattle.flow_pieces.proofs.Falling.{sum_of_pieces}
use Rattle.flow_pieces.proofs.Splits.{all_so_far}
use Rattle.flow_pieces.proofs.splitting.pieces.Goals as goal

pub returns-clause-pieces : goal.returns-clause-pieces
returns-clause-pieces c =
    let arcs = c.arcs-j-end.ensures in
    all_so_far (bare c.args.net.now) («at» c.args.x.now) («at» c.loop-j.walker.rest.items) c.loop-j.list c.loop-j.invariant.so_far
    (λ k l. c.loop-j.invariant.empty k (omega arith))

pub returns-clause-add_up : goal.returns-clause-add_up
returns-clause-add_up c = (sum_of_pieces (bare c.args.net.now) («at» c.args.x.now) c.loop-j.list (returns-clause-pieces c)).sums

pub returns-clause-few : goal.returns-clause-few
returns-clause-few c = (sum_of_pieces (bare c.args.net.now) («at» c.args.x.now) c.loop-j.list (returns-clause-pieces c)).few

pub returns-clause-circuits : goal.returns-clause-circuits
returns-clause-circuits c = (sum_of_pieces (bare c.args.net.now) («at» c.args.x.now) c.loop-j.list (returns-clause-pieces c)).circuits
