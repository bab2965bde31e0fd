use Rattle.std.proofs.Common.{◌≡◌}
use Rattle.net_incidence.specs.Graph.{bare}
use Rattle.flow_pieces.proofs.Closing.{AreBeing}
use Rattle.flow_pieces.proofs.walker.Walker.cut.Given as goal

abbrev pub invariant-loop-k : goal.invariant-loop-k
invariant-loop-k l = record {
  walk : l.self.walk.items ≡ l.initial.self.walk.items;
  rest : l.self.rest.items ≡ l.initial.self.rest.items;
  looked : l.self.looked.items ≡ l.initial.self.looked.items;
  placed : AreBeing (bare l.net) l.initial.self.walk.items l.self.places.items l.place l.k;
}
