-- When each status comes, by the request and the files that the source holds.
use Rattle.std.specs.Prelude.{◌≡◌, ◌≢◌, ◌⊎◌, ℕ, ◌+◌, true, List, Option, Some, None, IsSome}
use Rattle.std.specs.Option.{ForSome}
use Rattle.theory.specs.Grounded.{Entries, grounded}
use Rattle.outside_io.specs.Files.{Files}
use Rattle.outside_io.specs.Seen.{Outside}
use Rattle.model_text.specs.declared.fault.FaultWord.{FaultWord}
use Rattle.model_text.specs.Model.{place_of, arc_names, node_names}
use Rattle.model_text.specs.ModelText.{Spells, IsFirstFault}
use Rattle.model_text.specs.Rescaled.{is_inexact}
use Rattle.model_text.specs.declared.scale.Scale.{Scale}
use Rattle.path_cut.specs.Returned.{returned}
use Rattle.path_cut.specs.Says.{LacksGreatestFlow, LacksGreatestTension}
use Rattle.warm_solve.specs.ChangesText.{Change, Spells as SpellsChanges, IsFirstFault as IsFirstFaultOfChanges}
use Rattle.mono_top.specs.Checks.{IsValidText}
use Rattle.mono_top.specs.ShowsPieces.{IsFlowlessText}
use Rattle.mono_top.specs.TooBig.{IsTooBigFor}
use Rattle.mono_top.specs.Reading.{IsFileWith, AllReadable}
use Rattle.mono_top.specs.Request.{Request, about_model, about_trial, Question, check, pieces, resolve, show_curve, greatest_flow, greatest_tension, convert, files_of}
use Rattle.mono_top.specs.declared.status.Status.{Status}
use Rattle.mono_top.specs.declared.status.Status.TheVariants.{Done, Usage, Missing, ReadFault, WriteFault, NoMemory, TooLong}

-- the request asks this question about a model file, and P holds of the file's text
abbrev pub AsksOfText : Files → Question → (List ℕ → Type 0) → Option Request → Type 0
AsksOfText files question P request = (model : List ℕ) × (request ≡ Some (about_model model question)) × IsFileWith files model P

-- the request asks this question about a file that spells this model at this scale
abbrev pub Asks : Files → Question → Scale → Entries → Option Request → Type 0
Asks files question s m request = AsksOfText files question (λ text. Spells text s m) request

-- a question is asked about a model file: this first fault is its text's
abbrev pub AsksFaulty : Files → ℕ → FaultWord → Option Request → Type 0
AsksFaulty files line word request = (question : Question) × AsksOfText files question (λ text. IsFirstFault text line word) request

-- `check` was asked for: the first file spells this model, and the second file has this text, whatever it is
abbrev pub AsksToCheck : Files → Scale → Entries → List ℕ → Option Request → Type 0
AsksToCheck files s m text request =
    (certificate : List ℕ) × Asks files (check certificate) s m request × IsFileWith files certificate (λ bytes. bytes ≡ text)

-- `pieces` was asked for: the first file spells this model, which is not too big, and the second file has this text
abbrev pub AsksToSplit : Files → Scale → Entries → List ℕ → Option Request → Type 0
AsksToSplit files s m text request =
    (certificate : List ℕ) × Asks files (pieces certificate) s m request × (¬ IsTooBigFor (pieces certificate) m)
    × IsFileWith files certificate (λ bytes. bytes ≡ text)

-- one of them was asked for, and that text is not one of a valid certificate
abbrev pub AsksInvalid : Files → Option Request → Type 0
AsksInvalid files request =
    (s : Scale) × (m : Entries) × (text : List ℕ) × (AsksToCheck files s m text request ⊎ AsksToSplit files s m text request)
    × ¬ IsValidText s m text

-- `pieces` was asked for, and that text is one of a valid certificate in which there is no flow
abbrev pub AsksNoFlow : Files → Option Request → Type 0
AsksNoFlow files request = (s : Scale) × (m : Entries) × (text : List ℕ) × AsksToSplit files s m text request × IsFlowlessText s m text

-- `resolve` was asked for: the first file spells this model, and P holds of the second file's text
abbrev pub AsksToResolve : Files → Scale → Entries → (List ℕ → Type 0) → Option Request → Type 0
AsksToResolve files s m P request = (changes : List ℕ) × Asks files (resolve changes) s m request × IsFileWith files changes P

-- the text spells these changes
abbrev pub AsksChanges : Files → Scale → Entries → List Change → Option Request → Type 0
AsksChanges files s m changes request = AsksToResolve files s m (λ text. SpellsChanges s m text changes) request

-- this first fault is the text's
abbrev pub AsksFaultyChanges : Files → ℕ → FaultWord → Option Request → Type 0
AsksFaultyChanges files line word request =
    (s : Scale) × (m : Entries) × AsksToResolve files s m (λ text. IsFirstFaultOfChanges s m text line word) request

-- the model is too big for the question
abbrev pub AsksTooBig : Files → Option Request → Type 0
AsksTooBig files request = (question : Question) × (s : Scale) × (m : Entries) × Asks files question s m request × IsTooBigFor question m

-- `convert` was asked for, and a number of the model isn't whole at that scale, or too great
abbrev pub AsksInexact : Files → Option Request → Type 0
AsksInexact files request = (to s : Scale) × (m : Entries) × Asks files (convert to) s m request × (is_inexact s to m ≡ true)

-- `curve` was asked for, and the model has no arc of that name
abbrev pub AsksUnknownArc : Files → Option Request → Type 0
AsksUnknownArc files request =
    (arc : List ℕ) × (s : Scale) × (m : Entries) × Asks files (show_curve arc) s m request × (place_of (arc_names m) arc ≡ None)

-- `maxflow` or `maxtension` was asked for, and the model has no node of one of the two names
abbrev pub AsksUnknownNode : Files → Option Request → Type 0
AsksUnknownNode files request =
    (from to : List ℕ) × (s : Scale) × (m : Entries)
    × (Asks files (greatest_flow from to) s m request ⊎ Asks files (greatest_tension from to) s m request)
    × ((place_of (node_names m) from ≡ None) ⊎ (place_of (node_names m) to ≡ None))

-- the model's nodes of these names stand at these positions
abbrev pub AreNodes : Entries → List ℕ → List ℕ → ℕ → ℕ → Type 0
AreNodes m from to i k = (place_of (node_names m) from ≡ Some i) × (place_of (node_names m) to ≡ Some k)

-- `maxflow` or `maxtension` was asked for, and there are feasible flows, or potentials, over some denominator, but none is greatest
abbrev pub AsksUnbounded : Files → Option Request → Type 0
AsksUnbounded files request =
    (from to : List ℕ) × (s : Scale) × (m : Entries) × (i k : ℕ) × AreNodes m from to i k
    × (Asks files (greatest_flow from to) s m request × LacksGreatestFlow (returned (grounded m) (i + 1) (k + 1))
    ⊎ Asks files (greatest_tension from to) s m request × LacksGreatestTension (grounded m) (i + 1) (k + 1))

-- a command was asked for, and its files are readable
abbrev pub IsAnswerable : Files → Option Request → Type 0
IsAnswerable files request = IsSome request × AllReadable files (files_of request)

-- a trial model was asked for
abbrev pub AsksTrial : Option Request → Type 0
AsksTrial request = (number : ℕ) × (request ≡ Some (about_trial number))

-- it was reported, but for want of memory and a fault of the sink
abbrev pub EndsTrial : Status → Type 0
EndsTrial result = (result ≡ Done) ⊎ (result ≡ NoMemory) ⊎ (result ≡ WriteFault)

-- where the source tells its files and they are such: the status comes, but for a fault of the source, want of memory, or a
-- fault of the sink
abbrev pub ComesAlways : Status → (Files → Type 0) → Outside → Status → Type 0
ComesAlways status Cause outside result = ForSome outside.holds (λ files. Cause files → ¬ outside.faulted
    → (result ≡ status) ⊎ (result ≡ NoMemory) ⊎ (result ≡ WriteFault))

-- the status and its cause in the files: it comes only there, and there always
pub record ComesBy (status : Status) (Cause : Files → Type 0) (outside : Outside) (result : Status) : Type 0 where
  pub only : result ≡ status → ForSome outside.holds Cause
  pub always : ComesAlways status Cause outside result

-- neither a fault of the source or of the sink nor want of memory ended the call
pub record IsUnhindered (status : Status) : Type 0 where
  pub read : status ≢ ReadFault
  pub written : status ≢ WriteFault
  pub room : status ≢ NoMemory

-- the call came to the command's own answer: neither the words, nor a file, nor the sink was refused
pub record GoesThrough (status : Status) : Type 0 where
  pub listed : status ≢ Usage
  pub held : status ≢ Missing
  pub read : status ≢ ReadFault
  pub short : status ≢ TooLong
  pub written : status ≢ WriteFault
