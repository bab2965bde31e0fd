use Rattle.std.proofs.Common.{◌≡◌, ◌-◌, ◌<◌, length}
use Rattle.flow_pieces.specs.Course.{course, IsCourse}
use Rattle.flow_pieces.proofs.walker.Walker.go_on.Given as goal

abbrev pub invariant-loop-place : goal.invariant-loop-place
invariant-loop-place l = record {
  course : IsCourse l.net (course l.self);
  some : 0 < length l.self.walk.items;
  rest : l.self.rest.items ≡ l.initial.self.rest.items;
}

abbrev pub decreases-loop-place : goal.decreases-loop-place
decreases-loop-place l = l.net.nodes - length l.self.walk.items
