-- The arcs of a model's tableau, and the tree that its arcs lead to.
use Rattle.std.proofs.Common.{◌≡◌, ℕ, ◌⊎◌, ◌+◌, ◌<◌, ◌≤◌, length, sym, subst, inl, inr, ⊎_elim, arith}
use Rattle.std.proofs.lemmas.Bool.{cases_lt}
use Rattle.theory.specs.Network.{Network, IsNetwork}
use Rattle.theory.specs.Grounded.{Entries, grounded}
use Rattle.theory.proofs.GroundedLaw.{length-grounded_arcs}
use Rattle.tucker_tableau.specs.Tableau.{number, IsSplit}
use Rattle.tucker_tableau.specs.Table.{Table, IsTableauOf}
use Rattle.tucker_tableau.specs.Lead.{IsModelNetwork, IsLed}
use Rattle.tucker_tableau.specs.Kept.{tableau_nodes_most, tableau_arcs_most}
use Rattle.tucker_tableau.proofs.Models.{model_network}
use Rattle.mono_top.specs.TooBig.{IsTooBigForTableau}

-- the arcs of the tableau of a model have names
pub row_named : (m : Entries) (table : Table) (i : ℕ) → IsSplit (grounded m) table.rows table.columns → i < length table.rows
    → number table.rows i < length m.nodes + length m.arcs
row_named m table i split there = (let e = length-grounded_arcs m in let l = split.rows_there i there in omega arith)

pub column_named : (m : Entries) (table : Table) (j : ℕ) → IsSplit (grounded m) table.rows table.columns → j < length table.columns
    → number table.columns j < length m.nodes + length m.arcs
column_named m table j split there = (let e = length-grounded_arcs m in let l = split.columns_there j there in omega arith)

-- there are as many rows as the model has nodes
pub led_of_model : (m : Entries) (old new : Table)
    → ((net : Network) → IsNetwork net → IsModelNetwork net (length old.rows) → IsTableauOf net old → IsLed net (length old.rows) new.rows)
    → IsNetwork (grounded m) → IsTableauOf (grounded m) old → IsLed (grounded m) (length m.nodes) new.rows
led_of_model m old new led good of =
    let size : length old.rows ≡ length m.nodes = (let e = of.split.count in omega arith) in
    subst (λ (n : ℕ). IsLed (grounded m) n new.rows) size
    (led (grounded m) good (subst (λ (n : ℕ). IsModelNetwork (grounded m) n) (sym size) (model_network m)) of)

pub too_big_or_not : (m : Entries) → IsTooBigForTableau m ⊎ (¬ IsTooBigForTableau m)
too_big_or_not m =
    let nodes = (grounded m).nodes in
    let arcs = length (grounded m).arcs in
    ⊎_elim (λ (many : tableau_nodes_most < nodes). inl (inl many))
    (λ (few : nodes ≤ tableau_nodes_most). ⊎_elim (λ (many : tableau_arcs_most < arcs). inl (inr many))
    (λ (fewer : arcs ≤ tableau_arcs_most). inr (λ big. ⊎_elim (λ (l : tableau_nodes_most < nodes). let no : ⊥ = omega arith in no) (λ (l : tableau_arcs_most < arcs). let no : ⊥ = omega arith in no) big))
    (cases_lt tableau_arcs_most arcs))
    (cases_lt tableau_nodes_most nodes)
