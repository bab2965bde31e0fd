-- Reading a whole file, and writing a whole text.
use Rattle.std.specs.Prelude.{◌≡◌, ℕ, ◌+◌, ◌<◌, ◌≤◌, List, length, Option, Some, None, ⊤}
use Rattle.std.specs.Option.{ForSome}
use Rattle.std.specs.Io.KnownBytes.{prepend_known}
use Rattle.outside_io.specs.Files.{Files, file_of}
use Rattle.outside_io.specs.declared.whole.ReadAns.{ReadAns}
use Rattle.outside_io.specs.declared.whole.ReadAns.TheVariants.{Bytes, Missing, TooLong, Fault, NoMemory}

-- the name is held
abbrev pub IsHeld : Files → List ℕ → Type 0
IsHeld files name = (bytes : List ℕ) × (file_of files name ≡ Some bytes)

-- the name is held with more than `most` bytes
abbrev pub IsTooLong : Files → List ℕ → ℕ → Type 0
IsTooLong files name most = (bytes : List ℕ) × (file_of files name ≡ Some bytes) × (most < length bytes)

-- what each answer says of the files that are held
abbrev pub ReadsWhole : Files → List ℕ → ℕ → ReadAns → Type 0
ReadsWhole files name most (Bytes text) = file_of files name ≡ Some text
ReadsWhole files name most Missing = file_of files name ≡ None
ReadsWhole files name most TooLong = IsTooLong files name most
ReadsWhole files name most Fault = ⊤
ReadsWhole files name most NoMemory = IsHeld files name

-- the answer's bytes, if it has any, are at most `most`
abbrev pub AnswersWithin : ReadAns → ℕ → Type 0
AnswersWithin (Bytes text) most = length text ≤ most
AnswersWithin Missing most = ⊤
AnswersWithin TooLong most = ⊤
AnswersWithin Fault most = ⊤
AnswersWithin NoMemory most = ⊤

-- what each answer says of the bytes that were left of the started file, and of those that are left now
abbrev pub ReadsRest : ReadAns → ℕ → Option (List ℕ) → Option (List ℕ) → Type 0
ReadsRest (Bytes text) most old new = ForSome old (λ left. left ≡ text)
ReadsRest Missing most old new = ⊥
ReadsRest TooLong most old new = (bytes : List ℕ) × (length bytes ≡ most + 1) × (old ≡ prepend_known bytes new)
ReadsRest Fault most old new = ⊤
ReadsRest NoMemory most old new = ⊤
