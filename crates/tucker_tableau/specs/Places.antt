-- Where an arc stands in a list of arcs.
use Rattle.std.specs.Prelude.{◌≡◌, ◌≢◌, ℕ, ◌<◌, List, length}
use Rattle.tucker_tableau.specs.Tableau.{number}

abbrev pub IsNowhere : List ℕ → ℕ → Type 0
IsNowhere arcs arc = (k : ℕ) → k < length arcs → number arcs k ≢ arc

pub record IsAt (arcs : List ℕ) (arc : ℕ) (k : ℕ) : Type 0 where
  pub there : k < length arcs
  pub is : number arcs k ≡ arc
