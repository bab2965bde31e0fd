-- The tree that the model's arcs lead to: taken in order, each that closes no circuit with those taken before is in the tree,
-- and of each set of model nodes that they connect the ground arc of the first one is. The network has n model nodes: arc i
-- below n runs from the ground to node i + 1, and the model's arcs follow.
use Rattle.std.specs.Prelude.{◌≡◌, ◌≢◌, ◌⊎◌, ◌↔◌, ℕ, ◌+◌, ◌<◌, ◌≤◌, ◌==◌, pos, List, [], ◌∷◌, length, if◌then◌else◌}
use Rattle.theory.specs.declared.network.Step.{Step}
use Rattle.theory.specs.Network.{Network, tail, head}
use Rattle.theory.specs.Circuit.{step, IsCircuit}
use Rattle.theory.specs.Tucker.{HasArc, Leads}
use Rattle.tucker_tableau.specs.Tableau.{number}
use Rattle.tucker_tableau.specs.Table.{Table, entry}
use Rattle.tucker_tableau.specs.Pivoted.{IsPivoted}

pub record IsModelNetwork (net : Network) (n : ℕ) : Type 0 where
  pub nodes : n + 1 ≡ net.nodes
  pub ground_tails : (i : ℕ) → i < n → tail net i ≡ 0
  pub ground_heads : (i : ℕ) → i < n → head net i ≡ i + 1
  pub model_tails : (k : ℕ) → n ≤ k → k < length net.arcs → 1 ≤ tail net k
  pub model_heads : (k : ℕ) → n ≤ k → k < length net.arcs → 1 ≤ head net k

-- the rows hold the arcs of the ground, in any order
abbrev pub IsGroundTree : Table → Type 0
IsGroundTree table = (arc : ℕ) → HasArc table.rows arc ↔ (arc < length table.rows)

-- ---- the tree

abbrev pub arc_of : List Step → ℕ → ℕ
arc_of walk l = (step walk l).arc.0

-- a circuit of arc k and of model arcs of the tree before it
pub record Closes (net : Network) (n : ℕ) (tree : List ℕ) (k : ℕ) : Type 0 where
  pub walk : List Step
  pub circuit : IsCircuit net walk
  pub over : (l : ℕ) → l < length walk → (arc_of walk l ≡ k) ⊎ ((n ≤ arc_of walk l) × (arc_of walk l < k) × HasArc tree (arc_of walk l))

-- a walk over model arcs of the tree from one node to another
pub record Connects (net : Network) (n : ℕ) (tree : List ℕ) (from to : ℕ) : Type 0 where
  pub walk : List Step
  pub leads : Leads net from walk to
  pub over : (l : ℕ) → l < length walk → (n ≤ arc_of walk l) × HasArc tree (arc_of walk l)

pub record IsLed (net : Network) (n : ℕ) (tree : List ℕ) : Type 0 where
  pub arcs : (k : ℕ) → n ≤ k → k < length net.arcs → HasArc tree k ↔ (Closes net n tree k → ⊥)
  pub ground : (v : ℕ) → v < n → HasArc tree v ↔ ((w : ℕ) → w < v → Connects net n tree (w + 1) (v + 1) → ⊥)

-- ---- one arc

-- no row of a ground arc passes in the column
abbrev pub NoGround : Table → ℕ → ℕ → ℕ → Type 0
NoGround table n column count = (i : ℕ) → i < count → number table.rows i < n → entry table i column ≡ pos 0

-- of these rows with ground arcs that pass in the column, row r has the greatest arc
pub record IsGreatest (table : Table) (n column count r : ℕ) : Type 0 where
  pub row : r < count
  pub ground : number table.rows r < n
  pub passes : entry table r column ≢ pos 0
  pub greatest : (i : ℕ) → i < count → number table.rows i < n → entry table i column ≢ pos 0 → number table.rows i ≤ number table.rows r

-- the pivot on the greatest ground arc in the column, if there is one
abbrev pub IsTaken : Table → Table → ℕ → ℕ → Type 0
IsTaken old new n column =
    (NoGround old n column (length old.rows) × (new ≡ old)) ⊎ ((r : ℕ) × IsGreatest old n column (length old.rows) r × IsPivoted old new r column)

-- ---- the tree on the way, when the model arcs below k were looked at

-- the part of a node under a list of arcs, found arc after arc: an arc moves the part of its head over to that of its tail
abbrev pub part : Network → List ℕ → ℕ → ℕ
part net [] v = v
part net (r ∷ rest) v = if part net rest v == part net rest (head net r) then part net rest (tail net r) else part net rest v

-- `least` gives the first node that model arcs of the tree connect a node with, and `taken` is the list of these arcs
pub record IsLedTo (net : Network) (n : ℕ) (rows : List ℕ) (k : ℕ) : Type 0 where
  pub least : ℕ → ℕ
  pub taken : List ℕ
  pub lowers : (v : ℕ) → least v ≤ v
  pub again : (v : ℕ) → least (least v) ≡ least v
  pub not_ground : (v : ℕ) → 1 ≤ v → 1 ≤ least v
  pub level : (i : ℕ) → i < length rows → n ≤ number rows i → least (head net (number rows i)) ≡ least (tail net (number rows i))
  pub firsts : (v : ℕ) → v < n → HasArc rows v ↔ (least (v + 1) ≡ v + 1)
  pub before : (i : ℕ) → i < length rows → (number rows i < n) ⊎ (number rows i < k)
  pub joined : (v w : ℕ) → least v ≡ least w → part net taken v ≡ part net taken w
  pub taken_there : (i : ℕ) → i < length taken → (n ≤ number taken i) × (number taken i < k) × HasArc rows (number taken i)
  pub taken_differ : (i m : ℕ) → i < m → m < length taken → number taken i ≢ number taken m
  pub settled : (m : ℕ) → n ≤ m → m < k → HasArc rows m ⊎ Closes net n rows m
