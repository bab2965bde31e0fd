-- So many changes were made, and the others are left. What was written waits for what follows the last state.
use Rattle.std.proofs.Common.{◌≡◌, ℕ, ◌+◌, ◌*◌, ◌≤◌, ◌++◌, List, length}
use Rattle.std.specs.Prelude.{All}
use Rattle.theory.specs.Grounded.{grounded}
use Rattle.warm_solve.specs.ChangesTextLaws.{IsChangeOf}
use Rattle.mono_top.specs.NetBound.{net_bound}
use Rattle.mono_top.specs.Resolves.{Resolves}
use Rattle.mono_top.specs.declared.status.Status.{Status}
use Rattle.mono_top.proofs.ResolveLemmas.{Follows}
use Rattle.mono_top.proofs.resolve.make_changes.Given as goal

abbrev pub decreases-loop-change : goal.decreases-loop-change
decreases-loop-change g l = length l.changes

abbrev pub invariant-loop-change : goal.invariant-loop-change
invariant-loop-change g l = record {
  fit : All (IsChangeOf l.fn.model.entries) l.changes;
  made : l.count + length l.changes ≡ length l.fn.changes;
  same_nodes : l.warm.network.nodes ≡ (grounded l.fn.model.entries).nodes;
  same_arcs : l.warm.network.arcs ≡ (grounded l.fn.model.entries).arcs;
  so_far : (status : Status) (rest : List ℕ) → Follows l.fn.model.scale l.fn.model.entries l.count l.warm.network l.warm.kept l.changes status rest
      → Resolves l.fn.model.scale l.fn.model.entries l.fn.changes status (l.text.items ++ rest);
  no_fewer : l.fn.steps ≤ l.steps;
  bounded : l.steps + 2 * length l.changes * net_bound (grounded l.fn.model.entries) ≤ l.fn.steps + 2 * length l.fn.changes * net_bound (grounded l.fn.model.entries);
}
