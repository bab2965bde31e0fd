-- Tableau of a spanning tree (Rockafellar: Tucker tableau). A row stands for each arc of the tree and a column for each other
-- arc. The entries give the circuit that each column's arc closes with the tree, and so the two representations of the
-- network: every conserved flow by its numbers on the columns, every tension by its numbers on the rows.
use Rattle.std.specs.Prelude.{◌≡◌, ◌≢◌, ◌⊎◌, ℕ, ◌+◌, ◌<◌, ℤ, pos, ◌*ℤ◌, neg_ℤ, List, length, slice_index_or}
use Rattle.theory.specs.Sums.{sum_below}
use Rattle.theory.specs.Network.{Network}
use Rattle.theory.specs.Conserved.{IsConserved, tension}
use Rattle.theory.specs.Tucker.{HasArc, IsSpanningTree, IsTuckerEntry}

-- the arc at a place of a list of arcs
abbrev pub number : List ℕ → ℕ → ℕ
number arcs i = slice_index_or arcs i 0

-- a conserved flow on a row's arc is the sum over the columns of entry times flow
abbrev pub FlowLaw : Network → List ℕ → List ℕ → (ℕ → ℕ → ℤ) → Type 0
FlowLaw net rows columns a =
    (x : ℕ → ℤ) → IsConserved net x → (i : ℕ) → i < length rows
    → x (number rows i) ≡ sum_below (length columns) (λ j. a i j *ℤ x (number columns j))

-- a tension on a column's arc is minus the sum over the rows of entry times tension
abbrev pub TensionLaw : Network → List ℕ → List ℕ → (ℕ → ℕ → ℤ) → Type 0
TensionLaw net rows columns a =
    (u : ℕ → ℤ) → (j : ℕ) → j < length columns
    → tension net u (number columns j) ≡ neg_ℤ (sum_below (length rows) (λ i. a i j *ℤ tension net u (number rows i)))

-- each arc is a row or a column, once, and the rows are one fewer than the nodes
pub record IsSplit (net : Network) (rows columns : List ℕ) : Type 0 where
  pub count : length rows + 1 ≡ net.nodes
  pub rows_there : (i : ℕ) → i < length rows → number rows i < length net.arcs
  pub columns_there : (j : ℕ) → j < length columns → number columns j < length net.arcs
  pub rows_differ : (i k : ℕ) → i < k → k < length rows → number rows i ≢ number rows k
  pub columns_differ : (j k : ℕ) → j < k → k < length columns → number columns j ≢ number columns k
  pub apart : (i j : ℕ) → i < length rows → j < length columns → number rows i ≢ number columns j
  pub size : length rows + length columns ≡ length net.arcs
  pub every : (k : ℕ) → k < length net.arcs → HasArc rows k ⊎ HasArc columns k

pub record IsTuckerTableau (net : Network) (rows columns : List ℕ) (a : ℕ → ℕ → ℤ) : Type 0 where
  pub split : IsSplit net rows columns
  pub tree : IsSpanningTree net rows
  pub entries : (i j : ℕ) → i < length rows → j < length columns → IsTuckerEntry net rows (number rows i) (number columns j) (a i j)
  pub flow_law : FlowLaw net rows columns a
  pub tension_law : TensionLaw net rows columns a

-- the same with less said: the entries are Tucker's, since the laws hold, and the rows are a tree, since a potential that
-- rises along no row's arc is constant
abbrev pub Spans : Network → List ℕ → Type 0
Spans net rows =
    (u : ℕ → ℤ) → ((i : ℕ) → i < length rows → tension net u (number rows i) ≡ pos 0) → (k : ℕ) → k < net.nodes → u k ≡ u 0

pub record IsLawful (net : Network) (rows columns : List ℕ) (a : ℕ → ℕ → ℤ) : Type 0 where
  pub split : IsSplit net rows columns
  pub spans : Spans net rows
  pub flow_law : FlowLaw net rows columns a
  pub tension_law : TensionLaw net rows columns a
