-- Slack: how far the potentials outside a set of nodes may be lifted until the tension of an arc comes to the end of its span.
use Rattle.std.specs.Prelude.{◌≡◌, ℕ, ◌<◌, ◌≤◌, min, ℤ, ◌-ℤ◌, Bool, true, false, Option, Some, None, List, length}
use Rattle.theory.specs.declared.ext.Ext.{Ext}
use Rattle.theory.specs.declared.ext.Ext.TheVariants.{MinusInf, At, PlusInf}
use Rattle.theory.specs.Sums.{positive_part}
use Rattle.theory.specs.Span.{span_low, span_high}
use Rattle.theory.specs.Network.{«at», tail, head, list_at}
use Rattle.theory.specs.Conserved.{tension}
use Rattle.theory.specs.Cut.{holds}
use Rattle.net_incidence.specs.Graph.{Graph, bare}
use Rattle.net_incidence.specs.FlowAlong.{AreSmall}

-- how far it is up to the upper end, and down to the lower end
abbrev pub above : Ext → ℤ → Option ℕ
above MinusInf v = None
above (At b) v = Some (positive_part (b -ℤ v))
above PlusInf v = None

abbrev pub below : Ext → ℤ → Option ℕ
below MinusInf v = None
below (At a) v = Some (positive_part (v -ℤ a))
below PlusInf v = None

-- by whether the set holds the arc's tail and its head
abbrev pub slack : Ext → Ext → ℤ → Bool → Bool → Option ℕ
slack low high v true true = None
slack low high v true false = above high v
slack low high v false true = below low v
slack low high v false false = None

abbrev pub slack_at : Graph → List (List Ext) → List ℤ → List Bool → ℕ → Option ℕ
slack_at g lists u side j =
    slack (span_low (list_at lists j)) (span_high (list_at lists j)) (tension (bare g) («at» u) j) (holds side (tail (bare g) j))
    (holds side (head (bare g) j))

-- the lesser of the numbers that there are
abbrev pub lesser : Option ℕ → Option ℕ → Option ℕ
lesser None b = b
lesser (Some a) None = Some a
lesser (Some a) (Some b) = Some (min a b)

-- the least of the first n that there are
pub record IsLeast (n : ℕ) (f : ℕ → Option ℕ) (t : ℕ) : Type 0 where
  pub least : (j s : ℕ) → j < n → f j ≡ Some s → t ≤ s
  pub met : (j : ℕ) × (j < n) × (f j ≡ Some t)

abbrev pub IsLeastOf : ℕ → (ℕ → Option ℕ) → Option ℕ → Type 0
IsLeastOf n f None = (j : ℕ) → j < n → f j ≡ None
IsLeastOf n f (Some t) = IsLeast n f t

-- what reading tensions asks for
pub record ArePriced (g : Graph) (curves : ℕ) (flows u : List ℤ) : Type 0 where
  pub one_curve_each : curves ≡ length g.arcs
  pub one_flow_each : length flows ≡ length g.arcs
  pub one_each : length u ≡ g.nodes
  pub small : AreSmall u
