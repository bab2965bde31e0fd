-- What a write through a sink passes on to its writer, where the writer tells its contents.
use Rattle.std.specs.Prelude.{ℕ, ◌≤◌, List, length, take, Option, Result, Ok, Err}
use Rattle.std.specs.Io.KnownBytes.{Appends}
use Rattle.outside_io.specs.declared.sink.Put.{Put}
use Rattle.outside_io.specs.declared.sink.Put.TheVariants.{Took, Fault}

-- some front of the part went to the end of the writer
abbrev pub AppendsFront : Option (List ℕ) → Option (List ℕ) → List ℕ → Type 0
AppendsFront old new part = (n : ℕ) × (n ≤ length part) × Appends old new (take n part)

-- what was taken stands at the end of the writer, and a fault may have passed on some front of the part
abbrev pub PassesOn : Put → Option (List ℕ) → Option (List ℕ) → List ℕ → Type 0
PassesOn (Took n) old new part = Appends old new (take n part)
PassesOn Fault old new part = AppendsFront old new part

-- the same of one write and its flush
abbrev pub WritesThrough : {E : Type 0} → Result ℕ E → Option (List ℕ) → Option (List ℕ) → List ℕ → Type 0
WritesThrough (Ok n) old new part = (n ≤ length part) × Appends old new (take n part)
WritesThrough (Err error) old new part = AppendsFront old new part
