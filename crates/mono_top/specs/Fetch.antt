-- What fetching one file of a request came to, and the model of its first file.
use Rattle.std.specs.Prelude.{◌≡◌, ℕ, ◌≤◌, List, length, Result, Ok, Err, Some}
use Rattle.std.specs.Option.{ForSome}
use Rattle.std.specs.declared.alloc.AllocError.{AllocError}
use Rattle.outside_io.specs.Files.{file_of}
use Rattle.outside_io.specs.Whole.{IsHeld}
use Rattle.model_text.specs.ModelText.{Spells}
use Rattle.outside_io.specs.Seen.{Outside}
use Rattle.mono_top.specs.Answer.{RefusesFile, ReadsThen}
use Rattle.mono_top.specs.OfModel.{OfModel}
use Rattle.theory.specs.Limits.{file_most}
use Rattle.mono_top.specs.declared.fetch.Fetched.{Fetched}
use Rattle.mono_top.specs.declared.fetch.Fetched.TheVariants.{Bytes, Refused}
use Rattle.mono_top.specs.declared.fetch.FetchedModel.{FetchedModel}
use Rattle.mono_top.specs.declared.fetch.FetchedModel.TheVariants.{Model, Refused as RefusedModel}
use Rattle.mono_top.specs.declared.lines.Place.{Place}
use Rattle.mono_top.specs.declared.lines.Place.TheVariants.{First}
use Rattle.mono_top.specs.declared.reply.Text.{Text}
use Rattle.mono_top.specs.declared.reply.Text.TheVariants.{Fixed, Made}

-- the bytes of a reply's text
abbrev pub text_of : Text → List ℕ
text_of (Fixed line) = line.now
text_of (Made text) = text

-- the bytes of the whole file, or the line that refuses it; memory is asked for only where the name is held
abbrev pub Fetches : Place → List ℕ → Outside → Result Fetched AllocError → Type 0
Fetches place name outside (Ok (Bytes bytes)) = ForSome outside.holds (λ files. file_of files name ≡ Some bytes) × (length bytes ≤ file_most)
Fetches place name outside (Ok (Refused reply)) = RefusesFile place name outside reply.status (text_of reply.text)
Fetches place name outside (Err error) = ForSome outside.holds (λ files. IsHeld files name)

-- the model that the first file spells, or the line that refuses the file or its text
abbrev pub FetchesModel : List ℕ → Outside → Result FetchedModel AllocError → Type 0
FetchesModel name outside (Ok (Model model)) =
    (bytes : List ℕ) × ForSome outside.holds (λ files. file_of files name ≡ Some bytes) × (length bytes ≤ file_most) × Spells bytes model.scale model.entries
FetchesModel name outside (Ok (RefusedModel reply)) =
    ReadsThen First name (OfModel (λ s m status text. ⊥)) outside reply.status (text_of reply.text)
FetchesModel name outside (Err error) = ForSome outside.holds (λ files. IsHeld files name)
