-- All nodes and the arcs before the place are there; none of these arcs is inexact, so the test of all is that of those left.
use Rattle.std.proofs.Common.{◌≡◌, drop}
use Rattle.model_text.specs.Rescaled.{are_arcs_inexact}
use Rattle.model_text.proofs.RescaledModel.{arcs_before}
use Rattle.model_text.proofs.rescaling.add_arcs.Given as goal

abbrev pub invariant-loop-j : goal.invariant-loop-j
invariant-loop-j l = record {
  scale : l.model.scale ≡ l.fn.model.scale;
  same_test : are_arcs_inexact l.m.scale l.fn.model.scale (drop l.j l.m.entries.arcs) ≡ are_arcs_inexact l.m.scale l.fn.model.scale l.m.entries.arcs;
  added : l.model.entries ≡ arcs_before l.m.scale l.fn.model.scale l.m.entries l.m.formed l.j;
}
