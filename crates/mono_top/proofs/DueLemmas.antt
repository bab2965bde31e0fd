-- What the status of an answer says of the request. An answer that refuses neither the words, nor the model's file, nor its
-- text, answers a question about a model that the file spells; and a question about a readable model file is answered.
-- So a status that one question alone can have (`Ends`) has that question for its cause.
use Rattle.std.proofs.Common.{◌≡◌, ◌≢◌, ℕ, ◌+◌, true, false, List, subst, sym, ap, ◌∙◌, refl, Option, Some, None, inl, inr, rules}
use Rattle.std.proofs.lemmas.Bool.{false≢true}
use Rattle.std.specs.Option.{ForSome}
use Rattle.theory.specs.Grounded.{Entries, grounded}
use Rattle.theory.specs.Certificate.{Certificate}
use Rattle.theory.specs.Certificate.Certificate.{optimal, cut, circuit}
use Rattle.outside_io.specs.Files.{Files}
use Rattle.model_text.specs.declared.fault.FaultWord.{FaultWord}
use Rattle.model_text.specs.Model.{IsWellFormed, arc_names, node_names, place_of}
use Rattle.model_text.proofs.SpelledForm.{spelled_is_formed}
use Rattle.model_text.specs.Rescaled.{is_inexact}
use Rattle.model_text.specs.declared.scale.Scale.{Scale}
use Rattle.outside_io.specs.Seen.{Outside}
use Rattle.warm_solve.specs.ChangesText.{IsFirstFault as IsFirstFaultOfChanges}
use Rattle.mono_top.specs.Answer.{Answers, AnswersModel, behind}
use Rattle.mono_top.specs.Causes.{Asks, AsksFaulty, AsksFaultyChanges, AsksInexact, AsksInvalid, AsksNoFlow, AsksToCheck, AsksToResolve, AsksTooBig, AsksToSplit, AsksTrial, AsksUnbounded, AsksUnknownArc, AsksUnknownNode}
use Rattle.path_cut.specs.declared.flow_found.FlowFound.{FlowFound}
use Rattle.path_cut.specs.declared.flow_found.FlowFound.TheVariants.{Greatest as GreatestFlow, Unbounded as NoTopFlow, Refused as FlowRefused}
use Rattle.path_cut.specs.declared.tension_found.TensionFound.{TensionFound}
use Rattle.path_cut.specs.declared.tension_found.TensionFound.TheVariants.{Greatest as GreatestTension, Unbounded as NoTopTension, Refused as TensionRefused}
use Rattle.mono_top.specs.Between.{FindsFlow, FindsTension, status_of_flow, status_of_tension}
use Rattle.mono_top.specs.Checks.{ChecksText}
use Rattle.mono_top.specs.Converts.{Converts}
use Rattle.mono_top.specs.Due.{IsDue, IsDueOfFiles}
use Rattle.mono_top.specs.OfModel.{OfModel}
use Rattle.mono_top.specs.Request.{Request, about_model, about_trial, about_table, Question, solve, check, pieces, resolve, show_curve, show_tableau, greatest_flow, greatest_tension, convert, later_files, files_of}
use Rattle.mono_top.specs.Reading.{IsOpen, IsOpenFor}
use Rattle.mono_top.specs.Resolves.{ResolvesText}
use Rattle.mono_top.specs.ShowsCurve.{ShowsAt}
use Rattle.mono_top.specs.ShowsPieces.{SplitsText}
use Rattle.mono_top.specs.Solves.{status_of}
use Rattle.mono_top.specs.TooBig.{IsTooBigFor}
use Rattle.mono_top.specs.declared.lines.Place.TheVariants.{First, Second}
use Rattle.mono_top.specs.declared.status.Status.{Status}
use Rattle.mono_top.specs.declared.status.Status.TheVariants.{Done, Cut, Rejected, Usage, ModelRefused, Missing, ReadFault, TooLong, TooBig, UnknownArc, NotConverted, NoFlow, Unbounded, UnknownNode, TableRefused, ChangesRefused}
use Rattle.mono_top.proofs.CheckLemmas.{IsJudged, judged, invalid_is_rejected, rejected_is_invalid}
use Rattle.mono_top.proofs.SplitLemmas.{IsSplitAs, flows, flowless, invalid, split_as, invalid_is_rejected as invalid_is_split_rejected, rejected_is_invalid as rejected_is_split_invalid, flowless_is_no_flow, no_flow_is_flowless}
use Rattle.transport_front.specs.declared.fault.TableWord.{TableWord}
use Rattle.mono_top.specs.TableFiles.{AsksFaultyTable}
use Rattle.mono_top.specs.Transports.{AnswersTable}
use Rattle.mono_top.proofs.TableLemmas.{is_planned, is_unmet, is_refused, status_of_text, of_table_file, faulty_table_always}
use Rattle.mono_top.proofs.BetweenLemmas.{place_there, of_both, unknown_is_refused, refused_is_unknown, known, flow_kind, tension_kind}
use Rattle.mono_top.proofs.ResolveLemmas.{last_of, fault_is_told}
use Rattle.mono_top.proofs.Ends.{ends, not_by, answer_ends, later_due}
use Rattle.mono_top.proofs.ModelFileLemmas.{IsDueBehind, of_model_file, of_text, reached, next_of_model, fault_is_refused}

-- ---- between a question and its answer

-- the question about a readable model file is answered, where no fault kept the file from being read
pub answer_of : (request : Option Request) (outside : Outside) (status : Status) (text : List ℕ) → Answers request outside status text
    → status ≢ ReadFault → ForSome outside.holds (λ files. (question : Question) (s : Scale) (m : Entries) (asks : Asks files question s m request)
    → IsWellFormed m × AnswersModel question (behind asks.0 outside) s m status text)
answer_of request outside status text answers read files told question s m (model, is, file) =
    let its : Answers (Some (about_model model question)) outside status text = subst (λ (r : Option Request). Answers r outside status text) is answers in
    let next = reached First model (OfModel (AnswersModel question (behind model outside))) outside status text its read files told file.0 file.1 file.2 in
    ((spelled_is_formed file.0 s m file.3).1, next_of_model (AnswersModel question (behind model outside)) file.0 status text s m next file.3)

-- an answer to a question about a model that the file spells
pub record IsAnswered (request : Option Request) (outside : Outside) (status : Status) (text : List ℕ) : Type 0 where
  pub question : Question
  pub ended : ends question status ≡ true
  pub answer : ForSome outside.holds (λ files. (s : Scale) × (m : Entries) × (asks : Asks files question s m request) × AnswersModel question (behind asks.0 outside) s m status text)

-- something was refused, and it was not the words, the model's file or its text
record IsPast (status : Status) : Type 0 where
  refused : status ≢ Done
  listed : status ≢ Usage
  held : status ≢ Missing
  read : status ≢ ReadFault
  short : status ≢ TooLong
  spelled : (line : ℕ) (word : FaultWord) → status ≢ ModelRefused line word
  met : status ≢ Cut
  listing : (line : ℕ) (word : TableWord) → status ≢ TableRefused line word

answered : (request : Option Request) (outside : Outside) (status : Status) (text : List ℕ) → Answers request outside status text → IsPast status
    → IsAnswered request outside status text
answered None outside status text refused past = absurd (past.listed refused.0)
answered (Some (about_trial number)) outside status text reported past = absurd (past.refused reported.done)
answered (Some (about_table table)) outside status text reads past =
    let of = of_text First table AnswersTable outside status text reads past.held past.read past.short in
    elim (status_of_text of.bytes status text of.next) [
      | is_planned is ↦ absurd (past.refused is)
      | is_unmet is ↦ absurd (past.met is)
      | is_refused line word is ↦ absurd (past.listing line word is)
    ]
answered (Some (about_model model question)) outside status text reads past =
    let of = of_text First model (OfModel (AnswersModel question (behind model outside))) outside status text reads past.held past.read past.short in
    elim of.next [
      | inl (line, word, fault, is, said) ↦ absurd (past.spelled line word is)
      | inr (s, m, spells, next) ↦ record {
        question = question;
        ended = answer_ends question (behind model outside) s m status text next;
        answer = λ files told. (s, m, (model, refl, (of.bytes, of.held files told, of.short, spells)), next);
      }
    ]

-- ---- the statuses that refuse

never_usage : (question : Question) → ends question Usage ≡ false
never_usage solve = refl
never_usage question = refl

never_model : (question : Question) (line : ℕ) (word : FaultWord) → ends question (ModelRefused line word) ≡ false
never_model solve line word = refl
never_model question line word = refl

usage_is_none : (request : Option Request) (outside : Outside) (status : Status) (text : List ℕ) → Answers request outside status text → status ≡ Usage → request ≡ None
usage_is_none None outside status text refused is = refl
usage_is_none (Some (about_trial number)) outside status text reported is = let done = reported.done in absurd cc
usage_is_none (Some (about_table table)) outside status text reads is =
    let of = of_text First table AnswersTable outside status text reads (λ e. cc) (λ e. cc) (λ e. cc) in
    elim (status_of_text of.bytes status text of.next) [ is_planned as_plan ↦ absurd cc | is_unmet as_short ↦ absurd cc | is_refused line word as_bad ↦ absurd cc ]
usage_is_none (Some (about_model model question)) outside status text reads is =
    let of = of_text First model (OfModel (AnswersModel question (behind model outside))) outside status text reads (λ e. cc) (λ e. cc) (λ e. cc) in
    elim of.next [
      | inl (line, word, fault, refused, said) ↦ absurd cc
      | inr (s, m, spells, next) ↦ absurd (not_by (ends question) status Usage (answer_ends question (behind model outside) s m status text next) (never_usage question) is)
    ]

none_is_usage : (request : Option Request) (outside : Outside) (status : Status) (text : List ℕ) → Answers request outside status text → request ≡ None → status ≡ Usage
none_is_usage None outside status text refused is = refused.0
none_is_usage (Some command) outside status text reads is = absurd cc

trial_is_done : (request : Option Request) (outside : Outside) (status : Status) (text : List ℕ) → Answers request outside status text → AsksTrial request → status ≡ Done
trial_is_done request outside status text answers (number, is) =
    let reported : Answers (Some (about_trial number)) outside status text = subst (λ (r : Option Request). Answers r outside status text) is answers in
    reported.done

-- what is due of the later files, as it is said behind the first, is due of them
of_later : (Opens : Files → List ℕ → Type 0) (model : List ℕ) (names : List (List ℕ)) (outside : Outside) (status : Status) → IsDueOfFiles Opens names (behind model outside) status → IsDueOfFiles Opens names outside status
of_later Opens model names outside status due = record {
  has_text = due.has_text;
  missed = due.missed;
  not_held = due.not_held;
  faulted = due.faulted;
  too_long = due.too_long;
  too_long_always = due.too_long_always;
  readable = due.readable;
}

of_later_or_big : (Opens : Files → List ℕ → Type 0) (TooBigModel : Type 0) (model : List ℕ) (names : List (List ℕ)) (outside : Outside) (status : Status)
    → IsDueBehind Opens TooBigModel names (behind model outside) status → IsDueBehind Opens TooBigModel names outside status
of_later_or_big Opens TooBigModel model names outside status (inl big) = inl big
of_later_or_big Opens TooBigModel model names outside status (inr (small, due)) = inr (small, of_later Opens model names outside status due)

files_due : (request : Option Request) (outside : Outside) (status : Status) (text : List ℕ) → Answers request outside status text → IsDueOfFiles (IsOpen request) (files_of request) outside status
files_due None outside status text refused = search rules
files_due (Some (about_trial number)) outside status text reported = let done = reported.done in search rules
files_due (Some (about_table table)) outside status text reads = of_table_file table outside status text reads
files_due (Some (about_model model question)) outside status text reads =
    of_model_file question model (later_files question) (AnswersModel question (behind model outside)) outside status text
    (λ s m next. of_later_or_big (IsOpenFor question) (IsTooBigFor question m) model (later_files question) outside status (later_due question (behind model outside) s m status text next)) reads

faulty_only : (request : Option Request) (outside : Outside) (status : Status) (text : List ℕ) → Answers request outside status text
    → (line : ℕ) (word : FaultWord) → status ≡ ModelRefused line word → ForSome outside.holds (λ files. AsksFaulty files line word request)
faulty_only None outside status text refused line word is files told = let usage = refused.0 in absurd cc
faulty_only (Some (about_trial number)) outside status text reported line word is files told = let done = reported.done in absurd cc
faulty_only (Some (about_table table)) outside status text reads line word is files told =
    let of = of_text First table AnswersTable outside status text reads (λ e. cc) (λ e. cc) (λ e. cc) in
    elim (status_of_text of.bytes status text of.next) [ is_planned as_plan ↦ absurd cc | is_unmet as_short ↦ absurd cc | is_refused at_line its as_bad ↦ absurd cc ]
faulty_only (Some (about_model model question)) outside status text reads line word is files told =
    let of = of_text First model (OfModel (AnswersModel question (behind model outside))) outside status text reads (λ e. cc) (λ e. cc) (λ e. cc) in
    elim of.next [
      | inl (at_line, its, fault, refused, said) ↦
          let line_is : at_line ≡ line = cc in
          let word_is : its ≡ word = cc in
          (question, (model, refl, (of.bytes, of.held files told, of.short, rw (← line_is, ← word_is) fault)))
      | inr (s, m, spells, next) ↦
          absurd (not_by (ends question) status (ModelRefused line word) (answer_ends question (behind model outside) s m status text next) (never_model question line word) is)
    ]

faulty_always : (request : Option Request) (outside : Outside) (status : Status) (text : List ℕ) → Answers request outside status text → status ≢ ReadFault
    → ForSome outside.holds (λ files. (line : ℕ) (word : FaultWord) → AsksFaulty files line word request → status ≡ ModelRefused line word)
faulty_always request outside status text answers read files told line word (question, (model, is, file)) =
    let its : Answers (Some (about_model model question)) outside status text = subst (λ (r : Option Request). Answers r outside status text) is answers in
    let next = reached First model (OfModel (AnswersModel question (behind model outside))) outside status text its read files told file.0 file.1 file.2 in
    fault_is_refused (AnswersModel question (behind model outside)) file.0 status text line word next file.3

-- ---- a table that is refused

never_table : (question : Question) (line : ℕ) (word : TableWord) → ends question (TableRefused line word) ≡ false
never_table solve line word = refl
never_table question line word = refl

faulty_table_only : (request : Option Request) (outside : Outside) (status : Status) (text : List ℕ) → Answers request outside status text
    → (line : ℕ) (word : TableWord) → status ≡ TableRefused line word → ForSome outside.holds (λ files. AsksFaultyTable files line word request)
faulty_table_only None outside status text refused line word is files told = let usage = refused.0 in absurd cc
faulty_table_only (Some (about_trial number)) outside status text reported line word is files told = let done = reported.done in absurd cc
faulty_table_only (Some (about_table table)) outside status text reads line word is files told =
    let of = of_text First table AnswersTable outside status text reads (λ e. cc) (λ e. cc) (λ e. cc) in
    elim of.next [
      | inl (at_line, its, fault, refused, said) ↦
          let line_is : at_line ≡ line = cc in
          let word_is : its ≡ word = cc in
          (table, refl, (of.bytes, of.held files told, of.short, rw (← line_is, ← word_is) fault))
      | inr (t, spells, inl plan) ↦ let done = plan.done in absurd cc
      | inr (t, spells, inr short) ↦ let cut = short.unmet in absurd cc
    ]
faulty_table_only (Some (about_model model question)) outside status text reads line word is files told =
    let of = of_text First model (OfModel (AnswersModel question (behind model outside))) outside status text reads (λ e. cc) (λ e. cc) (λ e. cc) in
    elim of.next [
      | inl (at_line, its, fault, refused, said) ↦ absurd cc
      | inr (s, m, spells, next) ↦
          absurd (not_by (ends question) status (TableRefused line word) (answer_ends question (behind model outside) s m status text next) (never_table question line word) is)
    ]

-- ---- the statuses of one question

invalid_only : (files : Files) (question : Question) (s : Scale) (m : Entries) (request : Option Request) (outside : Outside) (status : Status) (text : List ℕ)
    → outside.holds ≡ Some files → Asks files question s m request → AnswersModel question outside s m status text → ends question Rejected ≡ true → status ≡ Rejected
    → AsksInvalid files request
invalid_only files (check certificate) s m request outside status text told asks checks ended is =
    let second = of_text Second certificate (ChecksText s m) outside status text checks (λ e. cc) (λ e. cc) (λ e. cc) in
    let file = asks.2 in
    let told_so = judged s m second.bytes status text (spelled_is_formed file.0 s m file.3).1 second.next in
    (s, m, second.bytes, inl (certificate, asks, (second.bytes, second.held files told, second.short, refl)), rejected_is_invalid s m second.bytes status told_so is)
invalid_only files (pieces certificate) s m request outside status text told asks (inl (big, refused, said)) ended is = absurd cc
invalid_only files (pieces certificate) s m request outside status text told asks (inr (small, reads)) ended is =
    let second = of_text Second certificate (SplitsText s m) outside status text reads (λ e. cc) (λ e. cc) (λ e. cc) in
    let file = asks.2 in
    let told_so = split_as s m second.bytes status text (spelled_is_formed file.0 s m file.3).1 second.next in
    (s, m, second.bytes, inr (certificate, asks, small, (second.bytes, second.held files told, second.short, refl)), rejected_is_split_invalid s m second.bytes status told_so is)
invalid_only files question s m request outside status text told asks answers ended is = absurd (false≢true ended)

-- the text of a request to check is judged, where no fault kept a file from being read
pub checked : (request : Option Request) (outside : Outside) (status : Status) (text : List ℕ) → Answers request outside status text
    → status ≢ ReadFault → ForSome outside.holds (λ files. (s : Scale) (m : Entries) (bytes : List ℕ) → AsksToCheck files s m bytes request
    → IsWellFormed m × IsJudged s m bytes status)
checked request outside status text answers read files told s m bytes (certificate, asks, second) =
    let first = answer_of request outside status text answers read files told (check certificate) s m asks in
    let checks = reached Second certificate (ChecksText s m) (behind asks.0 outside) status text first.1 read files told second.0 second.1 second.2 in
    (first.0, subst (λ (b : List ℕ). IsJudged s m b status) second.3 (judged s m second.0 status text first.0 checks))

-- the text of a request to split is what its status says, where no fault kept a file from being read
split : (request : Option Request) (outside : Outside) (status : Status) (text : List ℕ) → Answers request outside status text
    → status ≢ ReadFault → ForSome outside.holds (λ files. (s : Scale) (m : Entries) (bytes : List ℕ) → AsksToSplit files s m bytes request → IsSplitAs s m bytes status)
split request outside status text answers read files told s m bytes (certificate, asks, small, second) =
    let first = answer_of request outside status text answers read files told (pieces certificate) s m asks in
    elim first.1 [
      | inl (big, refused, said) ↦ absurd (small big)
      | inr (fits, reads) ↦
          let next = reached Second certificate (SplitsText s m) (behind asks.0 outside) status text reads read files told second.0 second.1 second.2 in
          subst (λ (b : List ℕ). IsSplitAs s m b status) second.3 (split_as s m second.0 status text first.0 next)
    ]

-- an invalid text is rejected by both
invalid_always : (request : Option Request) (outside : Outside) (status : Status) (text : List ℕ) → Answers request outside status text
    → status ≢ ReadFault → ForSome outside.holds (λ files. AsksInvalid files request → status ≡ Rejected)
invalid_always request outside status text answers read files told (s, m, bytes, inl asks, refused) =
    let told_so = checked request outside status text answers read files told s m bytes asks in
    invalid_is_rejected s m bytes status told_so.1 refused
invalid_always request outside status text answers read files told (s, m, bytes, inr asks, refused) =
    invalid_is_split_rejected s m bytes status (split request outside status text answers read files told s m bytes asks) refused

no_flow_only : (files : Files) (question : Question) (s : Scale) (m : Entries) (request : Option Request) (outside : Outside) (status : Status) (text : List ℕ)
    → outside.holds ≡ Some files → Asks files question s m request → AnswersModel question outside s m status text → ends question NoFlow ≡ true → status ≡ NoFlow
    → AsksNoFlow files request
no_flow_only files (pieces certificate) s m request outside status text told asks (inl (big, refused, said)) ended is = absurd cc
no_flow_only files (pieces certificate) s m request outside status text told asks (inr (small, reads)) ended is =
    let second = of_text Second certificate (SplitsText s m) outside status text reads (λ e. cc) (λ e. cc) (λ e. cc) in
    let file = asks.2 in
    let told_so = split_as s m second.bytes status text (spelled_is_formed file.0 s m file.3).1 second.next in
    (s, m, second.bytes, (certificate, asks, small, (second.bytes, second.held files told, second.short, refl)), no_flow_is_flowless s m second.bytes status told_so is)
no_flow_only files question s m request outside status text told asks answers ended is = absurd (false≢true ended)

-- no text that is split is too big
split_is_small : (s : Scale) (m : Entries) (bytes : List ℕ) (status : Status) → IsSplitAs s m bytes status → status ≢ TooBig
split_is_small s m bytes status (flows is valid some) e = absurd cc
split_is_small s m bytes status (flowless is none) e = absurd cc
split_is_small s m bytes status (invalid is refused) e = absurd cc

too_big_only : (files : Files) (question : Question) (s : Scale) (m : Entries) (request : Option Request) (outside : Outside) (status : Status) (text : List ℕ)
    → Asks files question s m request → AnswersModel question outside s m status text → ends question TooBig ≡ true → status ≡ TooBig
    → AsksTooBig files request
too_big_only files (pieces certificate) s m request outside status text asks (inl (big, refused, said)) ended is = (pieces certificate, s, m, asks, big)
too_big_only files (pieces certificate) s m request outside status text asks (inr (small, reads)) ended is =
    let second = of_text Second certificate (SplitsText s m) outside status text reads (λ e. cc) (λ e. cc) (λ e. cc) in
    let file = asks.2 in
    absurd (split_is_small s m second.bytes status (split_as s m second.bytes status text (spelled_is_formed file.0 s m file.3).1 second.next) is)
too_big_only files show_tableau s m request outside status text asks (inl (big, refused, said)) ended is = (show_tableau, s, m, asks, big)
too_big_only files show_tableau s m request outside status text asks (inr (small, shows)) ended is = let done = shows.done in absurd cc
too_big_only files question s m request outside status text asks answers ended is = absurd (false≢true ended)

big_is_refused : (question : Question) (s : Scale) (m : Entries) (outside : Outside) (status : Status) (text : List ℕ)
    → AnswersModel question outside s m status text → IsTooBigFor question m → status ≡ TooBig
big_is_refused (pieces certificate) s m outside status text (inl (big, is, said)) too_big = is
big_is_refused (pieces certificate) s m outside status text (inr (small, reads)) too_big = absurd (small too_big)
big_is_refused show_tableau s m outside status text (inl (big, is, said)) too_big = is
big_is_refused show_tableau s m outside status text (inr (small, shows)) too_big = absurd (small too_big)
big_is_refused question s m outside status text answers too_big = absurd too_big

unknown_shows : (s : Scale) (m : Entries) (at : Option ℕ) (status : Status) (text : List ℕ) → ShowsAt s m at status text → at ≡ None → status ≡ UnknownArc
unknown_shows s m (Some j) status text shows none = absurd cc
unknown_shows s m None status text shows none = shows.0

shows_unknown : (s : Scale) (m : Entries) (at : Option ℕ) (status : Status) (text : List ℕ) → ShowsAt s m at status text → status ≡ UnknownArc → at ≡ None
shows_unknown s m (Some j) status text shows unknown = let is = shows.0 in absurd cc
shows_unknown s m None status text shows unknown = refl

unknown_only : (files : Files) (question : Question) (s : Scale) (m : Entries) (request : Option Request) (outside : Outside) (status : Status) (text : List ℕ)
    → Asks files question s m request → AnswersModel question outside s m status text → ends question UnknownArc ≡ true → status ≡ UnknownArc
    → AsksUnknownArc files request
unknown_only files (show_curve arc) s m request outside status text asks shows ended is =
    (arc, s, m, asks, shows_unknown s m (place_of (arc_names m) arc) status text shows is)
unknown_only files question s m request outside status text asks answers ended is = absurd (false≢true ended)

-- ---- a model that isn't one at another scale

inexact_only : (files : Files) (question : Question) (s : Scale) (m : Entries) (request : Option Request) (outside : Outside) (status : Status) (text : List ℕ)
    → Asks files question s m request → AnswersModel question outside s m status text → ends question NotConverted ≡ true → status ≡ NotConverted
    → AsksInexact files request
inexact_only files (convert to) s m request outside status text asks (inl (inexact, refused, said)) ended is = (to, s, m, asks, inexact)
inexact_only files (convert to) s m request outside status text asks (inr (exact, done, said)) ended is = absurd cc
inexact_only files question s m request outside status text asks answers ended is = absurd (false≢true ended)

inexact_is_told : (to s : Scale) (m : Entries) (status : Status) (text : List ℕ) → Converts to s m status text → is_inexact s to m ≡ true → status ≡ NotConverted
inexact_is_told to s m status text (inl (inexact, is, said)) told = is
inexact_is_told to s m status text (inr (exact, is, said)) told = absurd (false≢true (sym exact ∙ told))

-- ---- two nodes

-- nothing that is found has this status
flow_is_known : (s : Scale) (m : Entries) (status : Status) (text : List ℕ) (i k : ℕ) → FindsFlow s m i k status text → status ≢ UnknownNode
flow_is_known s m status text i k finds = known_by finds.found finds.kind
  where
    known_by : (found : FlowFound) → status ≡ status_of_flow found → status ≢ UnknownNode
    known_by (GreatestFlow t x side) is unknown = cc
    known_by (NoTopFlow x walk) is unknown = cc
    known_by (FlowRefused side sum) is unknown = cc

tension_is_known : (s : Scale) (m : Entries) (status : Status) (text : List ℕ) (i k : ℕ) → FindsTension s m i k status text → status ≢ UnknownNode
tension_is_known s m status text i k finds = known_by finds.found finds.kind
  where
    known_by : (found : TensionFound) → status ≡ status_of_tension found → status ≢ UnknownNode
    known_by (GreatestTension t u walk) is unknown = cc
    known_by (NoTopTension u side) is unknown = cc
    known_by (TensionRefused walk sum) is unknown = cc

unknown_node_only : (files : Files) (question : Question) (s : Scale) (m : Entries) (request : Option Request) (outside : Outside) (status : Status) (text : List ℕ)
    → Asks files question s m request → AnswersModel question outside s m status text → ends question UnknownNode ≡ true → status ≡ UnknownNode
    → AsksUnknownNode files request
unknown_node_only files (greatest_flow from to) s m request outside status text asks answers ended is =
    (from, to, s, m, inl asks, refused_is_unknown (FindsFlow s m) status text (place_of (node_names m) from) (place_of (node_names m) to) answers (flow_is_known s m status text) is)
unknown_node_only files (greatest_tension from to) s m request outside status text asks answers ended is =
    (from, to, s, m, inr asks, refused_is_unknown (FindsTension s m) status text (place_of (node_names m) from) (place_of (node_names m) to) answers (tension_is_known s m status text) is)
unknown_node_only files question s m request outside status text asks answers ended is = absurd (false≢true ended)

unbounded_only : (files : Files) (question : Question) (s : Scale) (m : Entries) (request : Option Request) (outside : Outside) (status : Status) (text : List ℕ)
    → Asks files question s m request → AnswersModel question outside s m status text → ends question Unbounded ≡ true → status ≡ Unbounded
    → AsksUnbounded files request
unbounded_only files (greatest_flow from to) s m request outside status text asks answers ended is =
    let both = known (FindsFlow s m) status text (place_of (node_names m) from) (place_of (node_names m) to) answers (λ e. cc) in
    let formed = (spelled_is_formed asks.2.0 s m asks.2.3).1 in
    let kind = flow_kind s m (both.i + 1) (both.k + 1) formed (place_there m from both.i both.from_is) (place_there m to both.k both.to_is) status text both.next in
    (from, to, s, m, both.i, both.k, (both.from_is, both.to_is), inl (asks, kind.lacks.0 is))
unbounded_only files (greatest_tension from to) s m request outside status text asks answers ended is =
    let both = known (FindsTension s m) status text (place_of (node_names m) from) (place_of (node_names m) to) answers (λ e. cc) in
    let formed = (spelled_is_formed asks.2.0 s m asks.2.3).1 in
    let kind = tension_kind s m (both.i + 1) (both.k + 1) formed (place_there m from both.i both.from_is) (place_there m to both.k both.to_is) status text both.next in
    (from, to, s, m, both.i, both.k, (both.from_is, both.to_is), inr (asks, kind.lacks.0 is))
unbounded_only files question s m request outside status text asks answers ended is = absurd (false≢true ended)

unknown_node_always : (request : Option Request) (outside : Outside) (status : Status) (text : List ℕ) → Answers request outside status text
    → status ≢ ReadFault → ForSome outside.holds (λ files. AsksUnknownNode files request → status ≡ UnknownNode)
unknown_node_always request outside status text answers read files told (from, to, s, m, inl asks, none) =
    let its = answer_of request outside status text answers read files told (greatest_flow from to) s m asks in
    unknown_is_refused (FindsFlow s m) status text (place_of (node_names m) from) (place_of (node_names m) to) its.1 none
unknown_node_always request outside status text answers read files told (from, to, s, m, inr asks, none) =
    let its = answer_of request outside status text answers read files told (greatest_tension from to) s m asks in
    unknown_is_refused (FindsTension s m) status text (place_of (node_names m) from) (place_of (node_names m) to) its.1 none

unbounded_always : (request : Option Request) (outside : Outside) (status : Status) (text : List ℕ) → Answers request outside status text
    → status ≢ ReadFault → ForSome outside.holds (λ files. AsksUnbounded files request → status ≡ Unbounded)
unbounded_always request outside status text answers read files told (from, to, s, m, i, k, nodes, inl asks) =
    let its = answer_of request outside status text answers read files told (greatest_flow from to) s m asks.0 in
    let finds = of_both (FindsFlow s m) status text (place_of (node_names m) from) (place_of (node_names m) to) i k its.1 nodes.0 nodes.1 in
    (flow_kind s m (i + 1) (k + 1) its.0 (place_there m from i nodes.0) (place_there m to k nodes.1) status text finds).lacks.1 asks.1
unbounded_always request outside status text answers read files told (from, to, s, m, i, k, nodes, inr asks) =
    let its = answer_of request outside status text answers read files told (greatest_tension from to) s m asks.0 in
    let finds = of_both (FindsTension s m) status text (place_of (node_names m) from) (place_of (node_names m) to) i k its.1 nodes.0 nodes.1 in
    (tension_kind s m (i + 1) (k + 1) its.0 (place_there m from i nodes.0) (place_there m to k nodes.1) status text finds).lacks.1 asks.1

-- ---- changes that are refused

no_refusal : (c : Certificate) (line : ℕ) (word : FaultWord) → status_of c ≢ ChangesRefused line word
no_refusal (optimal x u cost value) line word is = cc
no_refusal (cut side capacity) line word is = cc
no_refusal (circuit x walk span) line word is = cc

faulty_changes_only : (files : Files) (question : Question) (s : Scale) (m : Entries) (request : Option Request) (outside : Outside) (status : Status) (text : List ℕ)
    (line : ℕ) (word : FaultWord) → outside.holds ≡ Some files → Asks files question s m request → AnswersModel question outside s m status text
    → ends question (ChangesRefused line word) ≡ true → status ≡ ChangesRefused line word → AsksFaultyChanges files line word request
faulty_changes_only files (resolve changes) s m request outside status text line word told asks reads ended is =
    let second = of_text Second changes (ResolvesText s m) outside status text reads (λ e. cc) (λ e. cc) (λ e. cc) in
    elim second.next [
      | inl (at_line, its, fault, refused, said) ↦
          let line_is : at_line ≡ line = cc in
          let word_is : its ≡ word = cc in
          (s, m, (changes, asks, (second.bytes, second.held files told, second.short, rw (← line_is, ← word_is) fault)))
      | inr (made, spells, resolves) ↦
          let last = last_of s m 0 (grounded m) made status text resolves in
          absurd (no_refusal last.certificate line word (sym last.kind ∙ is))
    ]
faulty_changes_only files question s m request outside status text line word told asks answers ended is = absurd (false≢true ended)

-- the text of a request to resolve is answered, where no fault kept a file from being read
pub resolved : (P : List ℕ → Type 0) (request : Option Request) (outside : Outside) (status : Status) (text : List ℕ) → Answers request outside status text
    → status ≢ ReadFault → ForSome outside.holds (λ files. (s : Scale) (m : Entries) (asks : AsksToResolve files s m P request) → IsWellFormed m × ResolvesText s m asks.2.0 status text)
resolved P request outside status text answers read files told s m (changes, asks, second) =
    let first = answer_of request outside status text answers read files told (resolve changes) s m asks in
    (first.0, reached Second changes (ResolvesText s m) (behind asks.0 outside) status text first.1 read files told second.0 second.1 second.2)

faulty_changes_always : (request : Option Request) (outside : Outside) (status : Status) (text : List ℕ) → Answers request outside status text
    → status ≢ ReadFault → ForSome outside.holds (λ files. (line : ℕ) (word : FaultWord) → AsksFaultyChanges files line word request → status ≡ ChangesRefused line word)
faulty_changes_always request outside status text answers read files told line word (s, m, asks) =
    let its = resolved (λ bytes. IsFirstFaultOfChanges s m bytes line word) request outside status text answers read files told s m asks in
    fault_is_told s m asks.2.0 line word status text its.1 asks.2.3

-- ---- all of it

pub due : (request : Option Request) (outside : Outside) (status : Status) (text : List ℕ) → Answers request outside status text → IsDue request outside status
due request outside status text answers =
    let of_files = files_due request outside status text answers in
    let quiet : ¬ outside.faulted → status ≢ ReadFault = λ quiet e. quiet (of_files.faulted e) in
    record {
      usage = usage_is_none request outside status text answers;
      usage_always = none_is_usage request outside status text answers;
      trial = trial_is_done request outside status text answers;
      of_files = of_files;
      refused = λ line word. record {
        only = faulty_only request outside status text answers line word;
        always = λ files told asks silent. inl (faulty_always request outside status text answers (quiet silent) files told line word asks);
      };
      table_refused = λ line word. record {
        only = faulty_table_only request outside status text answers line word;
        always = λ files told asks silent. inl (faulty_table_always request outside status text answers (quiet silent) files told line word asks);
      };
      rejected = record {
        only = λ is files told.
            let its = answered request outside status text answers (search rules) in
            let answer = its.answer files told in
            invalid_only files its.question answer.0 answer.1 request (behind answer.2.0 outside) status text told answer.2 answer.3 (sym (ap (ends its.question) is) ∙ its.ended) is;
        always = λ files told asks silent.
            inl (invalid_always request outside status text answers (quiet silent) files told asks);
      };
      too_big = record {
        only = λ is files told.
            let its = answered request outside status text answers (search rules) in
            let answer = its.answer files told in
            too_big_only files its.question answer.0 answer.1 request (behind answer.2.0 outside) status text answer.2 answer.3 (sym (ap (ends its.question) is) ∙ its.ended) is;
        always = λ files told asks silent.
            let its = answer_of request outside status text answers (quiet silent) files told asks.0 asks.1 asks.2 asks.3 in
            inl (big_is_refused asks.0 asks.1 asks.2 (behind asks.3.0 outside) status text its.1 asks.4);
      };
      no_flow = record {
        only = λ is files told.
            let its = answered request outside status text answers (search rules) in
            let answer = its.answer files told in
            no_flow_only files its.question answer.0 answer.1 request (behind answer.2.0 outside) status text told answer.2 answer.3 (sym (ap (ends its.question) is) ∙ its.ended) is;
        always = λ files told asks silent.
            inl (flowless_is_no_flow asks.0 asks.1 asks.2 status (split request outside status text answers (quiet silent) files told asks.0 asks.1 asks.2 asks.3) asks.4);
      };
      unknown_arc = record {
        only = λ is files told.
            let its = answered request outside status text answers (search rules) in
            let answer = its.answer files told in
            unknown_only files its.question answer.0 answer.1 request (behind answer.2.0 outside) status text answer.2 answer.3 (sym (ap (ends its.question) is) ∙ its.ended) is;
        always = λ files told asks silent.
            let its = answer_of request outside status text answers (quiet silent) files told (show_curve asks.0) asks.1 asks.2 asks.3 in
            inl (unknown_shows asks.1 asks.2 (place_of (arc_names asks.2) asks.0) status text its.1 asks.4);
      };
      not_converted = record {
        only = λ is files told.
            let its = answered request outside status text answers (search rules) in
            let answer = its.answer files told in
            inexact_only files its.question answer.0 answer.1 request (behind answer.2.0 outside) status text answer.2 answer.3 (sym (ap (ends its.question) is) ∙ its.ended) is;
        always = λ files told asks silent.
            let its = answer_of request outside status text answers (quiet silent) files told (convert asks.0) asks.1 asks.2 asks.3 in
            inl (inexact_is_told asks.0 asks.1 asks.2 status text its.1 asks.4);
      };
      unknown_node = record {
        only = λ is files told.
            let its = answered request outside status text answers (search rules) in
            let answer = its.answer files told in
            unknown_node_only files its.question answer.0 answer.1 request (behind answer.2.0 outside) status text answer.2 answer.3 (sym (ap (ends its.question) is) ∙ its.ended) is;
        always = λ files told asks silent. inl (unknown_node_always request outside status text answers (quiet silent) files told asks);
      };
      unbounded = record {
        only = λ is files told.
            let its = answered request outside status text answers (search rules) in
            let answer = its.answer files told in
            unbounded_only files its.question answer.0 answer.1 request (behind answer.2.0 outside) status text answer.2 answer.3 (sym (ap (ends its.question) is) ∙ its.ended) is;
        always = λ files told asks silent. inl (unbounded_always request outside status text answers (quiet silent) files told asks);
      };
      changes_refused = λ line word. record {
        only = λ is files told.
            let its = answered request outside status text answers (search rules) in
            let answer = its.answer files told in
            faulty_changes_only files its.question answer.0 answer.1 request (behind answer.2.0 outside) status text line word told answer.2 answer.3
            (sym (ap (ends its.question) is) ∙ its.ended) is;
        always = λ files told asks silent. inl (faulty_changes_always request outside status text answers (quiet silent) files told line word asks);
      };
    }
