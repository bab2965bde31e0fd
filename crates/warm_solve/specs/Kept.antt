-- The kept solution: a network and a certificate. It is valid for the network, as the clauses of `Warm` say.
use Rattle.std.specs.Prelude.{◌≡◌, length}
use Rattle.theory.specs.Network.{Network}
use Rattle.theory.specs.Certificate.{Certificate, IsValid}
use Rattle.kilter_solver.specs.Left.{Preparation}

pub record Kept : Type 0 where
  pub network : Network
  pub kept : Certificate

-- what is kept beside the room of the next solve
pub record IsKept (net : Network) (kept : Certificate) (room : Preparation) : Type 0 where
  pub valid : IsValid net kept
  pub nodes : room.nodes ≡ net.nodes
  pub arcs : room.arcs ≡ length net.arcs
