-- What a call leaves written, where the sink tells it.
use Rattle.std.specs.Prelude.{◌<◌, ℕ, List, length, Option}
use Rattle.std.specs.Option.{ForSome}
use Rattle.outside_io.specs.Sink.{Grew, GrewShort}
use Rattle.mono_top.specs.declared.status.Status.{Status}

-- the old bytes, and then a text that is due with this status
abbrev pub WritesDue : (Status → List ℕ → Type 0) → Option (List ℕ) → Option (List ℕ) → Status → Type 0
WritesDue Due old new status = (text : List ℕ) × Due status text × Grew old new text

-- the old bytes, and then the front of a due text: shorter than the text, for which there was too little sure room
abbrev pub WritesPart : (Status → List ℕ → Type 0) → Option (List ℕ) → Option (List ℕ) → Option ℕ → Type 0
WritesPart Due old new sure =
    (status : Status) × (text : List ℕ) × Due status text × GrewShort old new text × ForSome sure (λ left. left < length text)
