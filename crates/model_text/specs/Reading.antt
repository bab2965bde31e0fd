-- What an error of the reader says of the text, and how far it has come.
use Rattle.std.specs.Prelude.{ℕ, List, Option, None, Some, if◌then◌else◌}
use Rattle.theory.specs.Grounded.{Entries}
use Rattle.model_text.specs.declared.scale.Scale.{Scale}
use Rattle.model_text.specs.declared.read.Stage.{Stage}
use Rattle.model_text.specs.declared.read.Stage.TheVariants.{Nothing, Front, Made}
use Rattle.model_text.specs.declared.fault.PartFault.{PartFault}
use Rattle.model_text.specs.declared.fault.PartFault.TheVariants.{Word, NoMemory}
use Rattle.model_text.specs.declared.read.ModelError.{ModelError}
use Rattle.model_text.specs.declared.read.ModelError.TheVariants.{Fault as FaultAt, NoMemory as OutOfMemory}
use Rattle.model_text.specs.ModelText.{IsFirstFault, Progress, nothing, front, made, is_header}

abbrev pub IsRightError : List ℕ → ModelError → Type 0
IsRightError text (FaultAt line word) = IsFirstFault text line word
IsRightError text OutOfMemory = Unit {0}

abbrev pub error_at : ℕ → PartFault → ModelError
error_at line (Word word) = FaultAt line word
error_at line NoMemory = OutOfMemory

-- what the lines so far have made, with the model that takes the lines behind the front
abbrev pub progress_at : Stage → Scale → Entries → Progress
progress_at Nothing s m = nothing
progress_at Front s m = front
progress_at Made s m = made s m

-- what the first line with words leads to
abbrev pub first_stage : List (List ℕ) → Option Stage
first_stage words = if is_header 1 words then Some Made else (if is_header 2 words then Some Front else None)
