-- What a command answers to a model file that was read whole: the line for the first fault of its text, or the command's
-- own answer to the model that the text spells.
use Rattle.std.specs.Prelude.{◌≡◌, ◌⊎◌, ℕ, List}
use Rattle.theory.specs.Grounded.{Entries}
use Rattle.model_text.specs.declared.fault.FaultWord.{FaultWord}
use Rattle.model_text.specs.ModelText.{Spells, IsFirstFault}
use Rattle.model_text.specs.declared.scale.Scale.{Scale}
use Rattle.mono_top.specs.Lines.{model_line}
use Rattle.mono_top.specs.declared.status.Status.{Status}
use Rattle.mono_top.specs.declared.status.Status.TheVariants.{ModelRefused}

abbrev pub OfModel : (Scale → Entries → Status → List ℕ → Type 0) → List ℕ → Status → List ℕ → Type 0
OfModel Next bytes status text =
    ((line : ℕ) × (word : FaultWord) × IsFirstFault bytes line word × (status ≡ ModelRefused line word) × (text ≡ model_line line word))
    ⊎ ((s : Scale) × (m : Entries) × Spells bytes s m × Next s m status text)
