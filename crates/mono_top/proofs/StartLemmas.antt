-- The files that a call starts: its first, and behind it those that the question reads.
use Rattle.std.proofs.Common.{◌≡◌, ◌⊎◌, ℕ, List, [], ◌∷◌, Option, Some, None, Ok, inl, inr, ap, sym, ◌∙◌, subst, arith, length-append}
use Rattle.std.specs.Option.{ForSome}
use Rattle.outside_io.specs.Seen.{Seen, Outside, since, logged}
use Rattle.outside_io.proofs.Logs.{logged-logged}
use Rattle.model_text.specs.Model.{Formed}
use Rattle.model_text.specs.ModelText.{Spells}
use Rattle.model_text.specs.declared.scale.Scale.{Scale}
use Rattle.model_text.proofs.TextLaws.{one_model}
use Rattle.theory.specs.Grounded.{Entries}
use Rattle.mono_top.specs.Answer.{ReadsThen}
use Rattle.mono_top.specs.Fetch.{FetchesModel, text_of}
use Rattle.mono_top.specs.OfModel.{OfModel}
use Rattle.mono_top.specs.Reading.{IsFileWith, IsModelFile}
use Rattle.mono_top.specs.Request.{Request, about_model, about_trial, about_table, Question, check, pieces, resolve, show_tableau, later_files}
use Rattle.mono_top.specs.TooBig.{IsTooBigFor}
use Rattle.mono_top.specs.Starts.{StartsFiles, StartsLater}
use Rattle.mono_top.specs.declared.fetch.FetchedModel.TheVariants.{Model, Refused}
use Rattle.mono_top.specs.declared.lines.Place.TheVariants.{First}
use Rattle.mono_top.specs.declared.reply.Reply.{Reply}
use Rattle.mono_top.specs.declared.status.Status.{Status}
use Rattle.mono_top.proofs.ModelFileLemmas.{next_of_model}
use Rattle.mono_top.proofs.TableauLemmas.{too_big_or_not}

-- the first file was started, and the others exactly where the model is not too big
abbrev pub StartsInTurnOf : Question → Entries → List ℕ → Outside → Type 0
StartsInTurnOf question m first outside =
    IsTooBigFor question m × outside.started (first ∷ [])
    ⊎ (¬ IsTooBigFor question m) × outside.started (first ∷ later_files question)

-- the first file was started before the others
module _ (old mid new : Seen) (first : List ℕ) (start : mid.log ≡ logged old.log (first ∷ [])) where
  pub started_further : (names : List (List ℕ)) → new.log ≡ logged mid.log names → (since old new).started (first ∷ names)
  started_further names further = further ∙ ap (λ log. logged log names) start ∙ logged-logged old.log (first ∷ []) names

  pub started_later : (question : Question) (m : Entries) → StartsLater question m mid new → StartsInTurnOf question m first (since old new)
  started_later (check certificate) m later = inr (λ big. big, started_further (certificate ∷ []) later)
  started_later (pieces certificate) m (inl (big, none)) = inl (big, none ∙ start)
  started_later (pieces certificate) m (inr (small, later)) = inr (small, started_further (certificate ∷ []) later)
  started_later (resolve changes) m later = inr (λ big. big, started_further (changes ∷ []) later)
  started_later show_tableau m later = elim (too_big_or_not m) [ inl big ↦ inl (big, later ∙ start) | inr small ↦ inr (small, later ∙ start) ]
  started_later question m later = inr (λ big. big, later ∙ start)

-- a file that spells a model is refused by a fault alone
pub refused_by_fault : (model : List ℕ) (outside : Outside) (status : Status) (text : List ℕ)
    → ReadsThen First model (OfModel (λ s m status text. ⊥)) outside status text → ForSome outside.holds (λ files. IsModelFile files model → outside.faulted)
refused_by_fault model outside status text (inl (started, inl (is, line, missed, not_held))) files told file =
    let none = not_held files told in let held = file.1 in absurd cc
refused_by_fault model outside status text (inl (started, inr (inl (is, line, faulted)))) files told file = faulted
refused_by_fault model outside status text (inl (started, inr (inr (is, line, long)))) files told file =
    let past = long files told in absurd (grind (arith, length-append {A = ℕ}, past, file))
refused_by_fault model outside status text (inr (bytes, at_hand, short, next)) files told file =
    let same : bytes ≡ file.0 = let first = at_hand files told in let held = file.1 in cc in
    absurd (next_of_model (λ s m status text. ⊥) bytes status text file.3.0 file.3.1 next (subst (λ (b : List ℕ). Spells b file.3.0 file.3.1) (sym same) file.3.2))

-- ---- the files that a call starts

abbrev first_of : Option Request → List ℕ → List ℕ
first_of None other = other
first_of (Some (about_model model question)) other = model
first_of (Some (about_trial number)) other = other
first_of (Some (about_table table)) other = other

abbrev question_in : Option Request → Question → Question
question_in (Some (about_model model question)) other = question
question_in request other = other

-- the later files were started too, or the model is too big
pub starts_all : (model : List ℕ) (question : Question) (outside : Outside) (starved : Type 0) (found : Formed)
    → FetchesModel model outside (Ok (Model found)) → StartsInTurnOf question found.entries model outside → StartsFiles (Some (about_model model question)) outside starved
starts_all model question outside starved found (bytes, held, short, spells) (inr (small, started)) = record {
  in_turn = inr (started, λ files told. (bytes, held files told, short, (found.scale, found.entries, spells, small)));
  all = λ files told asks quiet. inl started;
}
starts_all model question outside starved found (bytes, held, short, spells) (inl (big, started)) = record {
  in_turn = inl started;
  all = λ files told asks quiet.
      let its : asks.0 ≡ question = ap (λ (r : Option Request). question_in r question) (sym asks.3.1) in
      let name : asks.3.0 ≡ model = ap (λ (r : Option Request). first_of r model) (sym asks.3.1) in
      let file = subst (λ (n : List ℕ). IsFileWith files n (λ text. Spells text asks.1 asks.2)) name asks.3.2 in
      let same : file.0 ≡ bytes = let first = held files told in let also = file.1 in cc in
      let is_model : asks.2 ≡ found.entries =
      (one_model bytes asks.1 found.scale asks.2 found.entries (subst (λ (b : List ℕ). Spells b asks.1 asks.2) same file.3) spells).1 in
      absurd (asks.4 (subst (λ (n : Entries). IsTooBigFor asks.0 n) (sym is_model) (subst (λ (q : Question). IsTooBigFor q found.entries) (sym its) big)));
}

-- the first file was refused, and no other was started
pub starts_refused : (model : List ℕ) (question : Question) (outside : Outside) (starved : Type 0) (reply : Reply)
    → FetchesModel model outside (Ok (Refused reply)) → outside.started (model ∷ []) → StartsFiles (Some (about_model model question)) outside starved
starts_refused model question outside starved reply refused started = record {
  in_turn = inl started;
  all = λ files told asks quiet.
      let name : asks.3.0 ≡ model = ap (λ (r : Option Request). first_of r model) (sym asks.3.1) in
      let file = subst (λ (n : List ℕ). IsModelFile files n) name (asks.3.2.0, asks.3.2.1, asks.3.2.2, (asks.1, asks.2, asks.3.2.3)) in
      absurd (quiet (refused_by_fault model outside reply.status (text_of reply.text) refused files told file));
}

-- no file was started
pub starts_none : (outside : Outside) (starved : Type 0) → outside.started [] → StartsFiles None outside starved
starts_none outside starved started = record { in_turn = started; all = λ files told asks quiet. let is = asks.3.1 in absurd cc }

-- nor for a trial
pub starts_none_for_trial : (number : ℕ) (outside : Outside) (starved : Type 0) → outside.started [] → StartsFiles (Some (about_trial number)) outside starved
starts_none_for_trial number outside starved started = record { in_turn = started; all = λ files told asks quiet. let is = asks.3.1 in absurd cc }

-- the table alone
pub starts_table : (table : List ℕ) (outside : Outside) (starved : Type 0) → outside.started (table ∷ []) → StartsFiles (Some (about_table table)) outside starved
starts_table table outside starved started = record { in_turn = started; all = λ files told asks quiet. let is = asks.3.1 in absurd cc }

-- the same with another word for a call that starved
pub starved_by : (request : Option Request) (outside : Outside) (starved other : Type 0) → (starved → other) → StartsFiles request outside starved → StartsFiles request outside other
starved_by request outside starved other step starts = record {
  in_turn = starts.in_turn;
  all = λ files told asks quiet. elim (starts.all files told asks quiet) [ inl started ↦ inl started | inr is ↦ inr (step is) ];
}
