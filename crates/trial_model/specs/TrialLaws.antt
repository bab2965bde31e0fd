-- Laws of the trial models.
use Rattle.std.specs.Prelude.{◌≡◌, ℕ, length}
use Rattle.trial_model.specs.Trial.{trial_entries}

abbrev pub CountsLaw : Type 0
CountsLaw = (number : ℕ) → (length (trial_entries number).nodes ≡ 200) × (length (trial_entries number).arcs ≡ 1000)
