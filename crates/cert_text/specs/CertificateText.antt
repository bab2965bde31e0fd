-- The text of a certificate of a model: each certificate has exactly one. Flows and capacities have the decimals of flows,
-- potentials and spans those of tensions, costs and values both together.
use Rattle.std.specs.Prelude.{ℕ, zero, suc, ◌+◌, ℤ, Bool, if◌then◌else◌, List, [], ◌∷◌, ◌++◌, length, codes}
use Rattle.std.specs.List.{flat_map}
use Rattle.theory.specs.declared.network.Step.{Step}
use Rattle.theory.specs.Network.{«at»}
use Rattle.theory.specs.Cut.{holds}
use Rattle.theory.specs.Grounded.{Entries, node_name, arc_name}
use Rattle.theory.specs.Certificate.{Certificate}
use Rattle.theory.specs.Certificate.Certificate.{optimal, cut, circuit}
use Rattle.model_text.specs.Printed.{printed_fixed, printed_line}
use Rattle.model_text.specs.Scale.{cost_decimals}
use Rattle.model_text.specs.declared.scale.Scale.{Scale}
use Rattle.model_text.specs.ModelText.{digit_word}

-- the texts of 0 .. n - 1, one after the other
abbrev pub texts_below : ℕ → (ℕ → List ℕ) → List ℕ
texts_below zero text = []
texts_below (suc n) text = texts_below n text ++ text n

abbrev pub head_line : Scale → List ℕ → List ℕ
head_line s kind = printed_line (codes "certificate") (digit_word s.version ∷ kind ∷ [])

abbrev pub number_line : ℕ → List ℕ → ℤ → List ℕ
number_line decimals keyword z = printed_line keyword (printed_fixed decimals z ∷ [])

-- `node NAME U Y`: the potential of model node i and the flow of its ground arc
abbrev pub potential_line : Scale → Entries → List ℤ → List ℤ → ℕ → List ℕ
potential_line s m u x i =
    printed_line (codes "node") (node_name m (i + 1) ∷ printed_fixed s.tension («at» u (i + 1)) ∷ printed_fixed s.flow («at» x i) ∷ [])

-- `node NAME Y` or `arc NAME X`: the flow of grounded arc j
abbrev pub flow_line : Scale → Entries → List ℤ → ℕ → List ℕ
flow_line s m x j = printed_line (arc_name m j) (printed_fixed s.flow («at» x j) ∷ [])

-- the flows of the ground arcs, and of the model's arcs, which stand behind them
abbrev pub supply_lines : Scale → Entries → List ℤ → List ℕ
supply_lines s m x = texts_below (length m.nodes) (flow_line s m x)

abbrev pub arc_lines : Scale → Entries → List ℤ → List ℕ
arc_lines s m x = texts_below (length m.arcs) (λ j. flow_line s m x (length m.nodes + j))

-- `side NAME` of grounded node i, which stands there where the side holds the node
abbrev pub node_line : Entries → ℕ → List ℕ
node_line m i = printed_line (codes "side") (node_name m i ∷ [])

abbrev pub side_line : Entries → List Bool → ℕ → List ℕ
side_line m side i = if holds side i then node_line m i else []

-- `step + ARC` or `step - ARC`
abbrev pub step_line : Entries → Step → List ℕ
step_line m s = printed_line (codes "step") ((if s.forward then codes "+" else codes "-") ∷ arc_name m s.arc.0 ∷ [])

abbrev pub certificate_text : Scale → Entries → Certificate → List ℕ
certificate_text s m (optimal x u cost value) =
    head_line s (codes "optimal") ++ number_line (cost_decimals s) (codes "cost") cost ++ number_line (cost_decimals s) (codes "value") value
    ++ texts_below (length m.nodes) (potential_line s m u x) ++ arc_lines s m x
certificate_text s m (cut side capacity) =
    head_line s (codes "cut") ++ number_line s.flow (codes "capacity") capacity ++ texts_below (length m.nodes + 1) (side_line m side)
certificate_text s m (circuit x walk span) =
    head_line s (codes "circuit") ++ number_line s.tension (codes "span") span ++ supply_lines s m x ++ arc_lines s m x ++ flat_map (step_line m) walk
