use Rattle.std.proofs.Common.{◌≡◌, ℕ, ◌<◌, pos}
use Rattle.theory.specs.Network.{«at»}
use Rattle.net_incidence.specs.Graph.{bare}
use Rattle.flow_pieces.specs.Course.{course, IsCourse}
use Rattle.flow_pieces.specs.Splitting.{ArePiecesSoFar}
use Rattle.flow_pieces.proofs.splitting.pieces.Given as goal

abbrev pub invariant-loop-j : goal.invariant-loop-j
invariant-loop-j l = record {
  course : IsCourse l.net (course l.walker);
  so_far : ArePiecesSoFar (bare l.net) («at» l.x) l.list («at» l.walker.rest.items);
  empty : (k : ℕ) → k < l.j → «at» l.walker.rest.items k ≡ pos 0;
}
