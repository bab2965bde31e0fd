-- What a write into a sink does, by what the sink tells of itself.
use Rattle.std.specs.Prelude.{◌≡◌, ℕ, ◌+◌, ◌<◌, ◌≤◌, List, take, length, Option, option_map, ⊤}
use Rattle.std.specs.Option.{ForSome}
use Rattle.std.specs.Io.KnownBytes.{append_known}
use Rattle.outside_io.specs.declared.sink.Put.{Put}
use Rattle.outside_io.specs.declared.sink.Put.TheVariants.{Took, Fault}

-- what was written, where it is told, grew by the part; whether it is told stays
abbrev pub Grew : Option (List ℕ) → Option (List ℕ) → List ℕ → Type 0
Grew old new part = new ≡ append_known old part

-- the same by a front that is shorter than the text
abbrev pub GrewShort : Option (List ℕ) → Option (List ℕ) → List ℕ → Type 0
GrewShort old new text = (n : ℕ) × (n < length text) × Grew old new (take n text)

-- the room, where it is told, fell by n; whether it is told stays
abbrev pub Fell : Option ℕ → Option ℕ → ℕ → Type 0
Fell old new n = old ≡ option_map (λ left. left + n) new

-- a write takes at least one byte, and no more than it was given
abbrev pub WritesWithin : Put → ℕ → Type 0
WritesWithin (Took n) room = (0 < n) × (n ≤ room)
WritesWithin Fault room = ⊤

-- where the sink tells what was written, it grew by the front that was taken, and a fault adds nothing
abbrev pub WritesFront : Put → Option (List ℕ) → Option (List ℕ) → List ℕ → Type 0
WritesFront (Took n) old new part = Grew old new (take n part)
WritesFront Fault old new part = new ≡ old

-- where the sink tells its room, it fell by what was taken, and a fault comes only where none is left
abbrev pub SpendsRoom : Put → Option ℕ → Option ℕ → Type 0
SpendsRoom (Took n) old new = Fell old new n
SpendsRoom Fault old new = (new ≡ old) × ForSome old (λ left. left ≡ 0)
