-- What a call needs of a source that never fails, and of a sink that fails for want of room alone.
use Rattle.std.specs.Prelude.{ℕ, ◌≤◌, List, [], ◌∷◌, length, Option, ⊤}
use Rattle.outside_io.specs.Counts.{Rose}
use Rattle.outside_io.specs.Files.{Files}
use Rattle.outside_io.specs.Seen.{Seen, Moves, since}
use Rattle.outside_io.specs.Whole.{IsHeld}
use Rattle.mono_top.specs.Answer.{Answers}
use Rattle.mono_top.specs.Request.{Request}
use Rattle.mono_top.specs.declared.status.Status.{Status}

abbrev pub AllHeld : Files → List (List ℕ) → Type 0
AllHeld files [] = ⊤
AllHeld files (name ∷ names) = IsHeld files name × AllHeld files names

-- there is room for each text that is due to the request, whatever else than a fault the source shows afterwards
abbrev pub HasRoom : Option Request → Seen → ℕ → Type 0
HasRoom request old room =
    (new : Seen) → Moves old new → ¬ Rose old.faults new.faults
    → (status : Status) (text : List ℕ) → Answers request (since old new) status text → length text ≤ room
