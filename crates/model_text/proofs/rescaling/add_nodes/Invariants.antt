-- The nodes before the place are there; none of them is inexact, so the test of all is that of those left.
use Rattle.std.proofs.Common.{◌≡◌, drop}
use Rattle.model_text.specs.Rescaled.{are_nodes_inexact}
use Rattle.model_text.proofs.RescaledModel.{nodes_before}
use Rattle.model_text.proofs.rescaling.add_nodes.Given as goal

abbrev pub invariant-loop-i : goal.invariant-loop-i
invariant-loop-i l = record {
  scale : l.model.scale ≡ l.fn.model.scale;
  same_test : are_nodes_inexact l.m.scale l.fn.model.scale (drop l.i l.m.entries.nodes) ≡ are_nodes_inexact l.m.scale l.fn.model.scale l.m.entries.nodes;
  added : l.model.entries ≡ nodes_before l.m.scale l.fn.model.scale l.m.entries l.m.formed l.i;
}
