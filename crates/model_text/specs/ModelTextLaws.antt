-- Laws of the model text: what reading a text gives is a function of the text; a change of scale loses nothing.
use Rattle.std.specs.Prelude.{◌≡◌, ℕ, false, ◌⊎◌, List}
use Rattle.theory.specs.Grounded.{Entries}
use Rattle.model_text.specs.declared.fault.FaultWord.{FaultWord}
use Rattle.model_text.specs.Model.{IsWellFormed}
use Rattle.model_text.specs.Scale.{IsScale}
use Rattle.model_text.specs.declared.scale.Scale.{Scale}
use Rattle.model_text.specs.ModelText.{Spells, IsFirstFault}
use Rattle.model_text.specs.Printed.{printed_model}
use Rattle.model_text.specs.Rescaled.{rescaled, is_inexact}

-- a text spells at most one model
abbrev pub OneModelLaw : Type 0
OneModelLaw = (text : List ℕ) (s t : Scale) (m n : Entries) → Spells text s m → Spells text t n → (s ≡ t) × (m ≡ n)

-- a text that spells a model has no first fault
abbrev pub SpelledOrBadLaw : Type 0
SpelledOrBadLaw = (text : List ℕ) (s : Scale) (m : Entries) (line : ℕ) (word : FaultWord) → Spells text s m → IsFirstFault text line word → ⊥

-- a text has at most one first fault
abbrev pub OneFaultLaw : Type 0
OneFaultLaw = (text : List ℕ) (line others : ℕ) (word other : FaultWord) → IsFirstFault text line word → IsFirstFault text others other
    → (line ≡ others) × (word ≡ other)

-- every text spells a model or has a first fault
abbrev pub DecidedLaw : Type 0
DecidedLaw = (text : List ℕ) → ((s : Scale) × ((m : Entries) × Spells text s m)) ⊎ ((line : ℕ) × ((word : FaultWord) × IsFirstFault text line word))

-- what a text spells is well-formed, and its scale is one: names, limits, curve lists, ends of arcs
abbrev pub SpelledIsFormedLaw : Type 0
SpelledIsFormedLaw = (text : List ℕ) (s : Scale) (m : Entries) → Spells text s m → IsScale s × IsWellFormed m

-- the printed form of a model spells it
abbrev pub PrintedLaw : Type 0
PrintedLaw = (s : Scale) (m : Entries) → IsScale s → IsWellFormed m → Spells (printed_model s m) s m

-- and what is read from it is that model again
abbrev pub ReadBackLaw : Type 0
ReadBackLaw = (s t : Scale) (m n : Entries) → IsScale s → IsWellFormed m → Spells (printed_model s m) t n → (t ≡ s) × (n ≡ m)

-- a model that is exact at another scale is exact back at its own, and is that model again
abbrev pub RescaledBackLaw : Type 0
RescaledBackLaw = (s t : Scale) (m : Entries) → IsWellFormed m → is_inexact s t m ≡ false
    → (rescaled t s (rescaled s t m) ≡ m) × (is_inexact t s (rescaled s t m) ≡ false)
