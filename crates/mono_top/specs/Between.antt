-- What `maxflow` and `maxtension` answer to a model and the names of two nodes: a greatest flow with its cut, or flows without end along an
-- open path, or a cut that refuses every flow; and the same of tensions, with a path, an open cut, or a circuit.
use Rattle.std.specs.Prelude.{◌≡◌, ◌≢◌, ℕ, ◌+◌, ◌<◌, ◌≤◌, ℤ, Bool, List, [], ◌++◌, length, codes, Option, Some, None}
use Rattle.std.specs.List.{flat_map}
use Rattle.theory.specs.declared.network.Step.{Step}
use Rattle.theory.specs.Circuit.{step}
use Rattle.theory.specs.Grounded.{Entries, grounded}
use Rattle.model_text.specs.Model.{node_names, place_of}
use Rattle.model_text.specs.Printed.{printed_line}
use Rattle.model_text.specs.declared.scale.Scale.{Scale}
use Rattle.cert_text.specs.CertificateText.{texts_below, number_line, supply_lines, arc_lines, side_line, step_line}
use Rattle.cert_text.specs.FeasibilityText.{tension_line}
use Rattle.path_cut.specs.Found.{IsFlowFound, IsTensionFound}
use Rattle.path_cut.specs.Returned.{returned}
use Rattle.path_cut.specs.declared.flow_found.FlowFound.{FlowFound}
use Rattle.path_cut.specs.declared.flow_found.FlowFound.TheVariants.{Greatest as GreatestFlow, Unbounded as NoTopFlow, Refused as NoFlow}
use Rattle.path_cut.specs.declared.tension_found.TensionFound.{TensionFound}
use Rattle.path_cut.specs.declared.tension_found.TensionFound.TheVariants.{Greatest as GreatestTension, Unbounded as NoTopTension, Refused as NoTension}
use Rattle.mono_top.specs.Lines.{unknown_node_line}
use Rattle.mono_top.specs.declared.status.Status.{Status}
use Rattle.mono_top.specs.declared.status.Status.TheVariants.{Done, Cut, Circuit, Unbounded, UnknownNode}

-- ---- the texts

abbrev pub side_lines : Entries → List Bool → List ℕ
side_lines m side = texts_below (length m.nodes + 1) (side_line m side)

abbrev pub tension_lines : Scale → Entries → List ℤ → List ℕ
tension_lines s m u = texts_below (length m.nodes) (tension_line s m u)

-- the flows of the model's nodes and arcs; what the return carries is the number of the first line, and a flow like them; where there is no flow,
-- the capacity of the cut
abbrev pub flow_text : Scale → Entries → FlowFound → List ℕ
flow_text s m (GreatestFlow t x side) = number_line s.flow (codes "maxflow") t ++ supply_lines s m x ++ arc_lines s m x ++ side_lines m side
flow_text s m (NoTopFlow x walk) = printed_line (codes "maxflow unbounded") [] ++ supply_lines s m x ++ arc_lines s m x ++ flat_map (step_line m) walk
flow_text s m (NoFlow side sum) = number_line s.flow (codes "maxflow no") sum ++ side_lines m side

-- the potentials of the model's nodes; the number of the first line is a tension too, and where there is no potential, the span of the circuit
abbrev pub tension_text : Scale → Entries → TensionFound → List ℕ
tension_text s m (GreatestTension t u walk) = number_line s.tension (codes "maxtension") t ++ tension_lines s m u ++ flat_map (step_line m) walk
tension_text s m (NoTopTension u side) = printed_line (codes "maxtension unbounded") [] ++ tension_lines s m u ++ side_lines m side
tension_text s m (NoTension walk sum) = number_line s.tension (codes "maxtension no") sum ++ flat_map (step_line m) walk

-- what the texts need: a number for each line, and steps over arcs that have names
abbrev pub WalkFits : Entries → List Step → Type 0
WalkFits m walk = (k : ℕ) → k < length walk → (step walk k).arc.0 < length m.nodes + length m.arcs

abbrev pub FlowFits : Entries → FlowFound → Type 0
FlowFits m (GreatestFlow t x side) = (length m.nodes + length m.arcs ≤ length x) × (length side ≡ length m.nodes + 1)
FlowFits m (NoTopFlow x walk) = (length m.nodes + length m.arcs ≤ length x) × WalkFits m walk
FlowFits m (NoFlow side sum) = length side ≡ length m.nodes + 1

abbrev pub TensionFits : Entries → TensionFound → Type 0
TensionFits m (GreatestTension t u walk) = (length u ≡ length m.nodes + 1) × WalkFits m walk
TensionFits m (NoTopTension u side) = (length u ≡ length m.nodes + 1) × (length side ≡ length m.nodes + 1)
TensionFits m (NoTension walk sum) = WalkFits m walk

-- ---- the answers

abbrev pub status_of_flow : FlowFound → Status
status_of_flow (GreatestFlow t x side) = Done
status_of_flow (NoTopFlow x walk) = Unbounded
status_of_flow (NoFlow side sum) = Cut

abbrev pub status_of_tension : TensionFound → Status
status_of_tension (GreatestTension t u walk) = Done
status_of_tension (NoTopTension u side) = Unbounded
status_of_tension (NoTension walk sum) = Circuit

-- between two different nodes of the grounded network
pub record FindsFlow (s : Scale) (m : Entries) (from to : ℕ) (status : Status) (text : List ℕ) : Type 0 where
  pub apart : from ≢ to
  pub found : FlowFound
  pub is_found : IsFlowFound (returned (grounded m) from to) found
  pub kind : status ≡ status_of_flow found
  pub is : text ≡ flow_text s m found

pub record FindsTension (s : Scale) (m : Entries) (from to : ℕ) (status : Status) (text : List ℕ) : Type 0 where
  pub apart : from ≢ to
  pub found : TensionFound
  pub is_found : IsTensionFound (grounded m) from to found
  pub kind : status ≡ status_of_tension found
  pub is : text ≡ tension_text s m found

-- by the positions of the two names: a model node stands behind the ground
abbrev pub OfNodes : (ℕ → ℕ → Status → List ℕ → Type 0) → Option ℕ → Option ℕ → Status → List ℕ → Type 0
OfNodes Next (Some i) (Some k) status text = Next (i + 1) (k + 1) status text
OfNodes Next (Some i) None status text = (status ≡ UnknownNode) × (text ≡ unknown_node_line)
OfNodes Next None to status text = (status ≡ UnknownNode) × (text ≡ unknown_node_line)

abbrev pub Between : (Scale → Entries → ℕ → ℕ → Status → List ℕ → Type 0) → List ℕ → List ℕ → Scale → Entries → Status → List ℕ → Type 0
Between Next from to s m status text = OfNodes (Next s m) (place_of (node_names m) from) (place_of (node_names m) to) status text
