-- The answer to a list of words, as one relation: of the request, of the files that the source holds where it tells
-- them, of what is left of the file started last, of whether its counts of misses and of faults rose, and of the status
-- and the text that are due. Statuses without a text of their own, a write fault and want of memory, are due nowhere.
use Rattle.std.specs.Prelude.{◌≡◌, ◌⊎◌, ℕ, ◌≤◌, List, [], ◌∷◌, length, Option, Some, None}
use Rattle.std.specs.Option.{ForSome}
use Rattle.theory.specs.Grounded.{Entries}
use Rattle.theory.specs.Limits.{file_most}
use Rattle.model_text.specs.declared.scale.Scale.{Scale}
use Rattle.outside_io.specs.Files.{file_of}
use Rattle.outside_io.specs.Seen.{Outside}
use Rattle.mono_top.specs.Lines.{usage_line, too_big_line, missing_line, read_fault_line, too_long_line}
use Rattle.mono_top.specs.Reading.{IsReadPastMost}
use Rattle.mono_top.specs.Request.{Request, about_model, about_trial, about_table, Question, solve, check, pieces, resolve, feasible, show_curve, show_tableau, greatest_flow, greatest_tension, convert}
use Rattle.mono_top.specs.OfModel.{OfModel}
use Rattle.mono_top.specs.Between.{Between, FindsFlow, FindsTension}
use Rattle.mono_top.specs.Checks.{ChecksText}
use Rattle.mono_top.specs.Converts.{Converts}
use Rattle.mono_top.specs.Resolves.{ResolvesText}
use Rattle.mono_top.specs.ShowsCurve.{ShowsCurve}
use Rattle.mono_top.specs.ShowsPieces.{SplitsText}
use Rattle.mono_top.specs.ShowsTableau.{ShowsTableau}
use Rattle.mono_top.specs.TooBig.{IsTooBigFor}
use Rattle.mono_top.specs.Transports.{AnswersTable}
use Rattle.mono_top.specs.FindsFeasible.{FindsFeasible}
use Rattle.mono_top.specs.Solves.{IsCertified}
use Rattle.mono_top.specs.Reports.{IsReported}
use Rattle.trial_model.specs.Trial.{trial_entries}
use Rattle.mono_top.specs.declared.lines.Place.{Place}
use Rattle.mono_top.specs.declared.lines.Place.TheVariants.{First, Second}
use Rattle.mono_top.specs.declared.status.Status.{Status}
use Rattle.mono_top.specs.declared.status.Status.TheVariants.{Usage, Missing, ReadFault, TooLong, TooBig}

-- the outside as it is behind a file: the names that were started after it
abbrev pub behind : List ℕ → Outside → Outside
behind name outside = record outside { started = λ names. outside.started (name ∷ names) }

-- the file, which was started last, was not read whole, and the line says so
abbrev pub RefusesFile : Place → List ℕ → Outside → Status → List ℕ → Type 0
RefusesFile place name outside status text =
    outside.started (name ∷ [])
    × ((status ≡ Missing) × (text ≡ missing_line place) × outside.missed × ForSome outside.holds (λ files. file_of files name ≡ None)
    ⊎ (status ≡ ReadFault) × (text ≡ read_fault_line place) × outside.faulted
    ⊎ (status ≡ TooLong) × (text ≡ too_long_line place) × ForSome outside.holds (λ files. IsReadPastMost files outside.rest name))

-- the file was read whole, and the rest of the work follows from its bytes
abbrev pub ReadsThen : Place → List ℕ → (List ℕ → Status → List ℕ → Type 0) → Outside → Status → List ℕ → Type 0
ReadsThen place name Next outside status text =
    RefusesFile place name outside status text
    ⊎ ((bytes : List ℕ) × ForSome outside.holds (λ files. file_of files name ≡ Some bytes) × (length bytes ≤ file_most) × Next bytes status text)

-- the model is too big, and the line says so; else the rest of the work follows
abbrev pub UnlessTooBig : Type 0 → (Status → List ℕ → Type 0) → Status → List ℕ → Type 0
UnlessTooBig TooBigModel Next status text =
    TooBigModel × (status ≡ TooBig) × (text ≡ too_big_line)
    ⊎ (¬ TooBigModel) × Next status text

-- what is due to a question about a model that has been read, at its scale; a further question is one more line
abbrev pub AnswersModel : Question → Outside → Scale → Entries → Status → List ℕ → Type 0
AnswersModel solve outside s m status text = IsCertified s m status text
AnswersModel (check certificate) outside s m status text = ReadsThen Second certificate (ChecksText s m) outside status text
AnswersModel (pieces certificate) outside s m status text =
    UnlessTooBig (IsTooBigFor (pieces certificate) m) (ReadsThen Second certificate (SplitsText s m) outside) status text
AnswersModel (resolve changes) outside s m status text = ReadsThen Second changes (ResolvesText s m) outside status text
AnswersModel feasible outside s m status text = FindsFeasible s m status text
AnswersModel (show_curve arc) outside s m status text = ShowsCurve arc s m status text
AnswersModel show_tableau outside s m status text = UnlessTooBig (IsTooBigFor show_tableau m) (ShowsTableau m) status text
AnswersModel (greatest_flow from to) outside s m status text = Between FindsFlow from to s m status text
AnswersModel (greatest_tension from to) outside s m status text = Between FindsTension from to s m status text
AnswersModel (convert to) outside s m status text = Converts to s m status text

-- the order of the refusals is the order of the readings
abbrev pub Answers : Option Request → Outside → Status → List ℕ → Type 0
Answers None outside status text = (status ≡ Usage) × (text ≡ usage_line)
Answers (Some (about_model model question)) outside status text =
    ReadsThen First model (OfModel (AnswersModel question (behind model outside))) outside status text
Answers (Some (about_trial number)) outside status text = IsReported (trial_entries number) status text
Answers (Some (about_table table)) outside status text = ReadsThen First table AnswersTable outside status text
