-- What the calls of a source of files answer, by what the source tells of itself.
use Rattle.std.specs.Prelude.{◌≡◌, ℕ, ◌<◌, ◌≤◌, List, [], take, Option, Some, ⊤}
use Rattle.std.specs.Option.{ForSome}
use Rattle.std.specs.Io.KnownBytes.{prepend_known}
use Rattle.outside_io.specs.Files.{Files, file_of}
use Rattle.outside_io.specs.declared.shelf.Got.{Got}
use Rattle.outside_io.specs.declared.shelf.Got.TheVariants.{Bytes, End, Fault}

-- where the source tells what it holds, the name is held, and all the bytes of its file are left to be read
abbrev pub BeginsFile : Option Files → List ℕ → Option (List ℕ) → Type 0
BeginsFile holds name left = ForSome holds (λ files. (bytes : List ℕ) × (file_of files name ≡ Some bytes) × (left ≡ Some bytes))

-- a read moves at least one byte, and no more than there is room for
abbrev pub ReadsWithin : Got → ℕ → Type 0
ReadsWithin (Bytes n) room = (0 < n) × (n ≤ room)
ReadsWithin End room = ⊤
ReadsWithin Fault room = ⊤

-- where the source tells what is left, a read moves its front into the slice, and the end comes only where nothing is left
abbrev pub TakesFront : Got → Option (List ℕ) → Option (List ℕ) → List ℕ → Type 0
TakesFront (Bytes n) old new buf = old ≡ prepend_known (take n buf) new
TakesFront End old new buf = (new ≡ old) × ForSome old (λ left. left ≡ [])
TakesFront Fault old new buf = new ≡ old
