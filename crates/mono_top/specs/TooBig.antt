-- Which models are too big for a question: by the counts of their grounded networks.
use Rattle.std.specs.Prelude.{◌⊎◌, ℕ, ◌<◌, length}
use Rattle.theory.specs.Grounded.{Entries, grounded}
use Rattle.tucker_tableau.specs.Kept.{IsTooBig}
use Rattle.mono_top.specs.Request.{Question, pieces, show_tableau}

-- the most nodes and arcs of a grounded network whose flow is split
abbrev pub pieces_nodes_most : ℕ
pieces_nodes_most = 1001

abbrev pub pieces_arcs_most : ℕ
pieces_arcs_most = 6000

abbrev pub IsTooBigForPieces : Entries → Type 0
IsTooBigForPieces m = (pieces_nodes_most < (grounded m).nodes) ⊎ (pieces_arcs_most < length (grounded m).arcs)

-- the limits of a tableau
abbrev pub IsTooBigForTableau : Entries → Type 0
IsTooBigForTableau m = IsTooBig (grounded m)

-- no model is too big for a question that is not named here
abbrev pub IsTooBigFor : Question → Entries → Type 0
IsTooBigFor (pieces certificate) m = IsTooBigForPieces m
IsTooBigFor show_tableau m = IsTooBigForTableau m
IsTooBigFor question m = ⊥
