-- Potentials on the way to a greatest tension, and what is answered. The gain of a node is how much further it has risen over the first
-- node than it had at the beginning.
use Rattle.std.specs.Prelude.{◌≡◌, ℕ, ◌+◌, ◌*◌, ◌<◌, ◌≤◌, ℤ, pos, ◌-ℤ◌, ◌≤ℤ◌, Bool, false, if◌then◌else◌, List, length}
use Rattle.theory.specs.declared.ext.Ext.{Ext}
use Rattle.theory.specs.Sums.{total_below}
use Rattle.theory.specs.Limits.{number_most}
use Rattle.theory.specs.Network.{Network}
use Rattle.theory.specs.Feasible.{IsFeasiblePotential}
use Rattle.theory.specs.Cut.{holds}
use Rattle.net_incidence.specs.Graph.{Graph, bare}
use Rattle.net_incidence.specs.WithoutBases.{without_bases}
use Rattle.painted_search.specs.Room.{Room}
use Rattle.painted_search.specs.Path.{IsFreeCut, IsGrowth}
use Rattle.path_cut.specs.Paintings.{tight}
use Rattle.path_cut.specs.GreatestTension.{rise, IsPathOf, IsOpenCut}
use Rattle.path_cut.specs.declared.tension.TensionTop.{TensionTop}
use Rattle.path_cut.specs.declared.tension.TensionTop.TheVariants.{Greatest, Unbounded}

abbrev pub gain : List ℤ → List ℤ → ℕ → ℕ → ℤ
gain begun u from i = rise u from i -ℤ rise begun from i

-- all nodes outside the set have gained the same, and none has gained more
pub record IsRisen (net : Network) (from : ℕ) (begun : List ℤ) (side : List Bool) (u : List ℤ) : Type 0 where
  pub feasible : IsFeasiblePotential 1 net u
  pub gained : ℕ
  pub few : gained ≤ 3 * (net.nodes * number_most)
  pub gains_some : (i : ℕ) → i < net.nodes → pos 0 ≤ℤ gain begun u from i
  pub gains_most : (i : ℕ) → i < net.nodes → gain begun u from i ≤ℤ pos gained
  pub outside : (i : ℕ) → i < net.nodes → holds side i ≡ false → gain begun u from i ≡ pos gained

-- the reached set is one that no tight step leaves
pub record IsClimbing (g : Graph) (lists : List (List Ext)) (from to : ℕ) (begun : List ℤ) (w : Room) : Type 0 where
  pub risen : IsRisen (without_bases g lists) from begun w.reached w.potentials
  pub parted : IsFreeCut (bare g) (tight g lists w.potentials) w.reached from to
  pub growth : IsGrowth (bare g) (tight g lists w.potentials) w.reached w.walk from
  pub short : length w.walk + 2 ≤ g.nodes

-- how many of the first n nodes the set lacks
abbrev pub lacked : ℕ → List Bool → ℕ
lacked n side = total_below n (λ i. if holds side i then 0 else 1)

pub record IsSameButPotentials (v w : Room) : Type 0 where
  pub nodes : w.nodes ≡ v.nodes
  pub arcs : w.arcs ≡ v.arcs
  pub flows : w.flows ≡ v.flows
  pub reached : w.reached ≡ v.reached

-- what a greatest tension is answered by
abbrev pub IsTensionAnswer : Network → ℕ → ℕ → Room → TensionTop → Type 0
IsTensionAnswer net from to w (Greatest t) = (rise w.potentials from to ≡ t) × IsPathOf net w.walk from to t
IsTensionAnswer net from to w Unbounded = IsOpenCut net w.reached from to
