-- What `convert` answers to a model: its printed form at another scale, or the line which says that it is none there.
use Rattle.std.specs.Prelude.{◌≡◌, ◌⊎◌, true, false, ℕ, List}
use Rattle.theory.specs.Grounded.{Entries}
use Rattle.model_text.specs.Printed.{printed_model}
use Rattle.model_text.specs.Rescaled.{rescaled, is_inexact}
use Rattle.model_text.specs.declared.scale.Scale.{Scale}
use Rattle.mono_top.specs.Lines.{not_converted_line}
use Rattle.mono_top.specs.declared.status.Status.{Status}
use Rattle.mono_top.specs.declared.status.Status.TheVariants.{Done, NotConverted}

-- to a scale, from the model's own
abbrev pub Converts : Scale → Scale → Entries → Status → List ℕ → Type 0
Converts to s m status text =
    (is_inexact s to m ≡ true) × (status ≡ NotConverted) × (text ≡ not_converted_line)
    ⊎ (is_inexact s to m ≡ false) × (status ≡ Done) × (text ≡ printed_model to (rescaled s to m))
