-- How far a line is read, and what an error of the reader says of the text.
use Rattle.std.specs.Prelude.{◌≡◌, ℕ, ◌<◌, length, Bool, true, None, Some, Result, Ok, Err, List}
use Rattle.transport_front.specs.declared.fault.TableWord.{TableWord}
use Rattle.transport_front.specs.declared.fault.Refusal.{Refusal}
use Rattle.transport_front.specs.declared.fault.Refusal.TheVariants.{Fault, NoMemory}
use Rattle.transport_front.specs.declared.read.TableError.{TableError}
use Rattle.transport_front.specs.declared.read.TableError.TheVariants.{Fault as FaultAt, NoMemory as OutOfMemory}
use Rattle.model_text.specs.Model.{place_of}
use Rattle.model_text.specs.ModelText.{word_at}
use Rattle.transport_front.specs.Table.{Table, is_plant, is_shop, kind_at, place_names}
use Rattle.transport_front.specs.TableText.{first_fault, IsFirstFault}

-- the tests are passed, or the refusal tells the first that isn't, or memory was short
abbrev pub Passes : {A : Type 0} → List (Bool × TableWord) → Result A Refusal → Type 0
Passes tests (Ok value) = first_fault tests ≡ None
Passes tests (Err (Fault word)) = first_fault tests ≡ Some word
Passes tests (Err NoMemory) = Unit {0}

abbrev pub IsRightError : List ℕ → TableError → Type 0
IsRightError text (FaultAt line word) = IsFirstFault text line word
IsRightError text OutOfMemory = Unit {0}

abbrev pub error_at : ℕ → Refusal → TableError
error_at line (Fault word) = FaultAt line word
error_at line NoMemory = OutOfMemory

-- the positions of the plant and of the shop that a lane's line names
pub record AreEnds (t : Table) (words : List (List ℕ)) (from to : ℕ) : Type 0 where
  pub tail : place_of (place_names t) (word_at words 2) ≡ Some from
  pub head : place_of (place_names t) (word_at words 3) ≡ Some to
  pub tail_there : from < length t.places
  pub head_there : to < length t.places
  pub from_plant : is_plant (kind_at t from) ≡ true
  pub to_shop : is_shop (kind_at t to) ≡ true
