-- What a due status says of the request, of the files, and of the counts.
use Rattle.std.specs.Prelude.{◌≡◌, ◌≢◌, ℕ, List, Option, None}
use Rattle.std.specs.Option.{ForSome}
use Rattle.outside_io.specs.Files.{Files, file_of}
use Rattle.outside_io.specs.Whole.{IsTooLong}
use Rattle.outside_io.specs.Seen.{Outside}
use Rattle.theory.specs.Limits.{file_most}
use Rattle.model_text.specs.declared.fault.FaultWord.{FaultWord}
use Rattle.mono_top.specs.Causes.{AsksFaulty, AsksFaultyChanges, AsksInexact, AsksInvalid, AsksNoFlow, AsksTooBig, AsksTrial, AsksUnbounded, AsksUnknownArc, AsksUnknownNode, ComesBy}
use Rattle.mono_top.specs.TableFiles.{AsksFaultyTable}
use Rattle.transport_front.specs.declared.fault.TableWord.{TableWord}
use Rattle.mono_top.specs.Reading.{AllReadable, IsOpen, IsReadPastMost, Reaches}
use Rattle.mono_top.specs.Request.{Request, files_of}
use Rattle.mono_top.specs.declared.status.Status.{Status}
use Rattle.mono_top.specs.declared.status.Status.TheVariants.{Done, Rejected, Usage, ModelRefused, Missing, ReadFault, WriteFault, NoMemory, TooLong, TooBig, UnknownArc, NotConverted, NoFlow, Unbounded, UnknownNode, TableRefused, ChangesRefused}

-- of the files that were to be read, in this order, each behind an open one
pub record IsDueOfFiles (Opens : Files → List ℕ → Type 0) (names : List (List ℕ)) (outside : Outside) (status : Status) : Type 0 where
  pub has_text : (status ≢ WriteFault) × (status ≢ NoMemory)
  pub missed : status ≡ Missing → outside.missed
  pub not_held : status ≡ Missing → ForSome outside.holds (λ files. Reaches (Opens files) (λ name. file_of files name ≡ None) names)
  pub faulted : status ≡ ReadFault → outside.faulted
  pub too_long : status ≡ TooLong → ForSome outside.holds (λ files. Reaches (Opens files) (IsReadPastMost files outside.rest) names)
  pub too_long_always : ForSome outside.holds (λ files. Reaches (Opens files) (λ name. IsTooLong files name file_most) names → ¬ outside.faulted → status ≡ TooLong)
  pub readable : ForSome outside.holds (λ files. AllReadable files names → (status ≢ Missing) × (status ≢ TooLong))

-- of the whole request
pub record IsDue (request : Option Request) (outside : Outside) (status : Status) : Type 0 where
  pub usage : status ≡ Usage → request ≡ None
  pub usage_always : request ≡ None → status ≡ Usage
  pub trial : AsksTrial request → status ≡ Done
  pub of_files : IsDueOfFiles (IsOpen request) (files_of request) outside status
  pub refused : (line : ℕ) (word : FaultWord) → ComesBy (ModelRefused line word) (λ files. AsksFaulty files line word request) outside status
  pub rejected : ComesBy Rejected (λ files. AsksInvalid files request) outside status
  pub too_big : ComesBy TooBig (λ files. AsksTooBig files request) outside status
  pub not_converted : ComesBy NotConverted (λ files. AsksInexact files request) outside status
  pub no_flow : ComesBy NoFlow (λ files. AsksNoFlow files request) outside status
  pub unknown_arc : ComesBy UnknownArc (λ files. AsksUnknownArc files request) outside status
  pub unknown_node : ComesBy UnknownNode (λ files. AsksUnknownNode files request) outside status
  pub unbounded : ComesBy Unbounded (λ files. AsksUnbounded files request) outside status
  pub table_refused : (line : ℕ) (word : TableWord) → ComesBy (TableRefused line word) (λ files. AsksFaultyTable files line word request) outside status
  pub changes_refused : (line : ℕ) (word : FaultWord) → ComesBy (ChangesRefused line word) (λ files. AsksFaultyChanges files line word request) outside status
