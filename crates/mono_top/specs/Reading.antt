-- The files of a request, read one after the other.
use Rattle.std.specs.Prelude.{◌≡◌, ◌⊎◌, ℕ, ◌+◌, ◌≤◌, List, [], ◌∷◌, ◌++◌, length, Option, Some, None, ⊤}
use Rattle.theory.specs.Grounded.{Entries}
use Rattle.theory.specs.Limits.{file_most}
use Rattle.outside_io.specs.Files.{Files, file_of}
use Rattle.outside_io.specs.Whole.{IsHeld, IsTooLong}
use Rattle.model_text.specs.ModelText.{Spells}
use Rattle.model_text.specs.declared.scale.Scale.{Scale}
use Rattle.mono_top.specs.Request.{Request, about_model, Question, files_of}
use Rattle.mono_top.specs.TooBig.{IsTooBigFor}

-- the file is held, and not too long
abbrev pub IsReadable : Files → List ℕ → Type 0
IsReadable files name = (bytes : List ℕ) × (file_of files name ≡ Some bytes) × (length bytes ≤ file_most)

-- the file is readable, and P holds of its text
abbrev pub IsFileWith : Files → List ℕ → (List ℕ → Type 0) → Type 0
IsFileWith files name P = (text : List ℕ) × (file_of files name ≡ Some text) × (length text ≤ file_most) × P text

-- the file is readable, and its text spells a model
abbrev pub IsModelFile : Files → List ℕ → Type 0
IsModelFile files name = IsFileWith files name (λ text. (s : Scale) × (m : Entries) × Spells text s m)

-- `file_most + 1` bytes of the file were read, and `rest` is what follows them
abbrev pub IsReadPastMost : Files → Option (List ℕ) → List ℕ → Type 0
IsReadPastMost files rest name =
    (taken left : List ℕ) × (length taken ≡ file_most + 1) × (file_of files name ≡ Some (taken ++ left)) × (rest ≡ Some left)

-- the file is readable, and its text spells a model that is not too big for the question
abbrev pub IsOpenFor : Question → Files → List ℕ → Type 0
IsOpenFor question files name = IsFileWith files name (λ text. (s : Scale) × (m : Entries) × Spells text s m × (¬ IsTooBigFor question m))

-- a file behind which the request reads the next one
abbrev pub IsOpen : Option Request → Files → List ℕ → Type 0
IsOpen (Some (about_model model question)) = IsOpenFor question
IsOpen request = λ files name. ⊥

-- P of a file that is reached: the file before it is open
abbrev pub Reaches : (List ℕ → Type 0) → (List ℕ → Type 0) → List (List ℕ) → Type 0
Reaches Opens P [] = ⊥
Reaches Opens P (name ∷ names) = P name ⊎ (Opens name × Reaches Opens P names)

abbrev pub ReachesMissing : Files → Option Request → Type 0
ReachesMissing files request = Reaches (IsOpen request files) (λ name. file_of files name ≡ None) (files_of request)

abbrev pub ReachesTooLong : Files → Option Request → Type 0
ReachesTooLong files request = Reaches (IsOpen request files) (λ name. IsTooLong files name file_most) (files_of request)

abbrev pub ReachesPastMost : Files → Option (List ℕ) → Option Request → Type 0
ReachesPastMost files rest request = Reaches (IsOpen request files) (IsReadPastMost files rest) (files_of request)

abbrev pub AllReadable : Files → List (List ℕ) → Type 0
AllReadable files [] = ⊤
AllReadable files (name ∷ names) = IsReadable files name × AllReadable files names

-- the first file, if there is one, is held
abbrev pub HoldsFirst : Files → List (List ℕ) → Type 0
HoldsFirst files [] = ⊤
HoldsFirst files (name ∷ names) = IsHeld files name
