-- Laws of the changes text: what reading a text for a model at its scale gives is a function of these, and what it gives fits the model.
use Rattle.std.specs.Prelude.{◌≡◌, ℕ, ◌+◌, ◌<◌, ◌≤◌, ◌⊎◌, List, length, All}
use Rattle.theory.specs.CurveList.{IsCurveList}
use Rattle.theory.specs.Grounded.{Entries}
use Rattle.model_text.specs.Model.{IsWithinLimits}
use Rattle.model_text.specs.declared.fault.FaultWord.{FaultWord}
use Rattle.model_text.specs.declared.scale.Scale.{Scale}
use Rattle.warm_solve.specs.ChangesText.{Change, changes_most, Spells, IsFirstFault}

-- a text spells at most one list of changes of a model
abbrev pub OneListLaw : Type 0
OneListLaw = (s : Scale) (m : Entries) (text : List ℕ) (changes others : List Change) → Spells s m text changes → Spells s m text others → changes ≡ others

-- a text that spells changes of a model has no first fault
abbrev pub SpelledOrBadLaw : Type 0
SpelledOrBadLaw = (s : Scale) (m : Entries) (text : List ℕ) (changes : List Change) (line : ℕ) (word : FaultWord) → Spells s m text changes
    → IsFirstFault s m text line word → ⊥

-- a text has at most one first fault
abbrev pub OneFaultLaw : Type 0
OneFaultLaw = (s : Scale) (m : Entries) (text : List ℕ) (line others : ℕ) (word other : FaultWord) → IsFirstFault s m text line word → IsFirstFault s m text others other
    → (line ≡ others) × (word ≡ other)

-- every text spells changes of the model or has a first fault
abbrev pub DecidedLaw : Type 0
DecidedLaw = (s : Scale) (m : Entries) (text : List ℕ) → ((changes : List Change) × Spells s m text changes) ⊎ ((line : ℕ) × ((word : FaultWord) × IsFirstFault s m text line word))

-- the arc is one of the grounded network, and the curve is one that a line of a model text can spell
pub record IsChangeOf (m : Entries) (change : Change) : Type 0 where
  pub there : change.arc < length m.nodes + length m.arcs
  pub limits : IsWithinLimits change.curve
  pub is_list : IsCurveList change.curve.items

pub record AreChangesOf (m : Entries) (changes : List Change) : Type 0 where
  pub each : All (IsChangeOf m) changes
  pub few : length changes ≤ changes_most

abbrev pub SpelledFitsLaw : Type 0
SpelledFitsLaw = (s : Scale) (m : Entries) (text : List ℕ) (changes : List Change) → Spells s m text changes → AreChangesOf m changes
