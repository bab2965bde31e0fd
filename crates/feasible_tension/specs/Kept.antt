-- What lowering potentials leaves as it was, and what subtracting one potential from all does.
use Rattle.std.specs.Prelude.{◌≡◌, ℕ, ◌<◌, ◌-ℤ◌}
use Rattle.theory.specs.Network.{«at»}
use Rattle.painted_search.specs.Room.{Room}

pub record IsKept (v w : Room) : Type 0 where
  pub nodes : w.nodes ≡ v.nodes
  pub arcs : w.arcs ≡ v.arcs
  pub flows : w.flows ≡ v.flows

abbrev pub IsShifted : Room → Room → Type 0
IsShifted v w = (i : ℕ) → i < v.nodes → «at» w.potentials i ≡ («at» v.potentials i -ℤ «at» v.potentials 0)
