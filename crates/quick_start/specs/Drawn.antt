-- What a draw leaves in the room: numbers of which nothing else is known, small enough for sums of a few.
use Rattle.std.specs.Prelude.{◌≡◌, ℕ, ◌^◌, ℤ, List}
use Rattle.theory.specs.Limits.{IsWithin}
use Rattle.theory.specs.Network.{«at»}
use Rattle.painted_search.specs.Room.{Room}

-- the greatest magnitude of a drawn number
abbrev pub far : ℕ
far = 2 ^ 60

abbrev pub AreDrawn : List ℤ → Type 0
AreDrawn numbers = (k : ℕ) → IsWithin far («at» numbers k)

-- a room of the same counts, with the same words in its scratch
pub record IsSameRoom (v w : Room) : Type 0 where
  pub nodes : w.nodes ≡ v.nodes
  pub arcs : w.arcs ≡ v.arcs
  pub scratch : w.scratch ≡ v.scratch
