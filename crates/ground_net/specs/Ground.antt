-- The grounded network of a model as it is seen: a network, and what holds of every grounded network.
use Rattle.std.specs.Prelude.{◌≡◌, ℕ, ◌+◌, ◌<◌, ◌≤◌, List, length, map, slice_set}
use Rattle.theory.specs.CurveList.{Listing}
use Rattle.theory.specs.Limits.{grounded_nodes_most, grounded_arcs_most}
use Rattle.theory.specs.Network.{Network, IsNetwork, tail, head, curve}
use Rattle.mono_curve.specs.CurveValue.{CurveValue}
use Rattle.model_text.specs.Model.{IsWithinLimits}

-- the curves as they are listed
abbrev pub listings : List CurveValue → List Listing
listings curves = map (λ c. c.listing) curves

-- the network with another curve in the place of one arc's
abbrev pub replaced : Network → ℕ → Listing → Network
replaced net j other = record net { curves = slice_set net.curves j other }

-- node 0 is the ground, and arc i runs from it to node i + 1, for each node above 0; the counts and the curves are those that a model allows
pub record IsGrounded (net : Network) : Type 0 where
  pub is_network : IsNetwork net
  pub tails : (i : ℕ) → i + 1 < net.nodes → tail net i ≡ 0
  pub heads : (i : ℕ) → i + 1 < net.nodes → head net i ≡ i + 1
  pub ground_there : 1 ≤ net.nodes
  pub arc_each : net.nodes ≤ length net.arcs + 1
  pub few_nodes : net.nodes ≤ grounded_nodes_most
  pub few_arcs : length net.arcs ≤ grounded_arcs_most
  pub curves_within : (j : ℕ) → j < length net.arcs → IsWithinLimits (curve net j)

pub record GroundedNet : Type 0 where
  pub network : Network
  pub good : IsGrounded network
