-- What an error of the reader says of the text.
use Rattle.std.specs.Prelude.{ℕ, Bool, true, false, Result, Ok, Err, List}
use Rattle.theory.specs.Grounded.{Entries}
use Rattle.model_text.specs.declared.fault.FaultWord.TheVariants.{Number}
use Rattle.model_text.specs.declared.fault.PartFault.{PartFault}
use Rattle.model_text.specs.declared.scale.Scale.{Scale}
use Rattle.model_text.specs.declared.fault.PartFault.TheVariants.{Word, NoMemory}
use Rattle.warm_solve.specs.declared.reading.ChangesError.{ChangesError}
use Rattle.warm_solve.specs.declared.reading.ChangesError.TheVariants.{Fault, NoMemory as OutOfMemory}
use Rattle.warm_solve.specs.ChangesText.{IsFirstFault}

abbrev pub IsRightError : Scale → Entries → List ℕ → ChangesError → Type 0
IsRightError s m text (Fault line word) = IsFirstFault s m text line word
IsRightError s m text OutOfMemory = Unit {0}

abbrev pub error_at : ℕ → PartFault → ChangesError
error_at line (Word word) = Fault line word
error_at line NoMemory = OutOfMemory

-- the words that were to list a curve are numbers, whatever else is wrong with them
abbrev pub has_numbers : {A : Type 0} → Result A PartFault → Bool
has_numbers (Ok curve) = true
has_numbers (Err NoMemory) = false
has_numbers (Err (Word Number)) = false
has_numbers (Err (Word word)) = true
