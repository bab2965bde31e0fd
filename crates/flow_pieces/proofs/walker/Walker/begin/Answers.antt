use Rattle.std.proofs.Common.{◌≡◌, length, rules}
use Rattle.theory.specs.Circuit.{begin_of}
use Rattle.net_incidence.specs.Graph.{bare}
use Rattle.flow_pieces.proofs.Going.{begins-nowhere}
use Rattle.flow_pieces.proofs.walker.Walker.begin.Goals as goal

pub push-requires-clause-new : goal.push-requires-clause-new
push-requires-clause-new c =
    let empty : length c.args.self.now.walk.items ≡ 0 = search rules in
    begins-nowhere (bare c.args.net.now) c.args.self.now.walk.items c.args.self.now.places.items (begin_of (bare c.args.net.now) c.args.step)
    c.requires.course.placed empty
