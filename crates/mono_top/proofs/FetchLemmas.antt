-- Files one after the other. A reply to the model that the first file spells is a reply to that file; and what is said of
-- a later part of a call, of its misses and faults, is said of the whole call, since the counts never fall.
use Rattle.std.proofs.Common.{◌≡◌, ℕ, List, [], ◌∷◌, Ok, inl, inr, arith}
use Rattle.theory.specs.Grounded.{Entries}
use Rattle.outside_io.specs.Counts.{Counts, Rose}
use Rattle.model_text.specs.Model.{Formed}
use Rattle.model_text.specs.declared.scale.Scale.{Scale}
use Rattle.outside_io.specs.Seen.{Seen, Outside, Moves, since, logged}
use Rattle.mono_top.specs.Answer.{ReadsThen, AnswersModel, behind}
use Rattle.mono_top.specs.Checks.{ChecksText}
use Rattle.mono_top.specs.Fetch.{FetchesModel}
use Rattle.mono_top.specs.OfModel.{OfModel}
use Rattle.mono_top.specs.Request.{Question, check, pieces, resolve}
use Rattle.mono_top.specs.Resolves.{ResolvesText}
use Rattle.mono_top.specs.ShowsPieces.{SplitsText}
use Rattle.mono_top.specs.declared.fetch.FetchedModel.TheVariants.{Model}
use Rattle.mono_top.specs.declared.lines.Place.{Place}
use Rattle.mono_top.specs.declared.lines.Place.TheVariants.{First, Second}
use Rattle.mono_top.specs.declared.status.Status.{Status}
use Rattle.mono_top.proofs.StartLemmas.{started_further}

pub answered : (name : List ℕ) (outside : Outside) (model : Formed) (Next : Scale → Entries → Status → List ℕ → Type 0) (status : Status) (text : List ℕ)
    → FetchesModel name outside (Ok (Model model)) → Next model.scale model.entries status text → ReadsThen First name (OfModel Next) outside status text
answered name outside model Next status text (bytes, held, short, spells) next = inr (bytes, held, short, inr (model.scale, model.entries, spells, next))

rose_before : (a b c : ℕ) → Counts a b → Rose b c → Rose a c
rose_before a b c counts rose = let later = counts.later in grind (arith, later, rose)

-- ---- from the part of a call behind its first file to the whole call

module _ (old mid new : Seen) (first : List ℕ) (moves : Moves old mid) (start : mid.log ≡ logged old.log (first ∷ [])) where
  pub of_whole_call : (place : Place) (name : List ℕ) (Next : List ℕ → Status → List ℕ → Type 0) (status : Status) (text : List ℕ)
      → ReadsThen place name Next (since mid new) status text → ReadsThen place name Next (behind first (since old new)) status text
  of_whole_call place name Next status text (inl (started, inl (is, line, missed, not_held))) =
      inl (started_further old mid new first start (name ∷ []) started, inl (is, line, rose_before old.misses mid.misses new.misses moves.misses missed, rw moves.holds at not_held))
  of_whole_call place name Next status text (inl (started, inr (inl (is, line, faulted)))) =
      inl (started_further old mid new first start (name ∷ []) started, inr (inl (is, line, rose_before old.faults mid.faults new.faults moves.faults faulted)))
  of_whole_call place name Next status text (inl (started, inr (inr (is, line, long)))) =
      inl (started_further old mid new first start (name ∷ []) started, inr (inr (is, line, rw moves.holds at long)))
  of_whole_call place name Next status text (inr (bytes, at_hand, short, next)) = inr (bytes, rw moves.holds at at_hand, short, next)

  -- the answer to a question about a model reads no file, or one that is read in this part
  pub answers_whole_call : (question : Question) (s : Scale) (m : Entries) (status : Status) (text : List ℕ)
      → AnswersModel question (since mid new) s m status text → AnswersModel question (behind first (since old new)) s m status text
  answers_whole_call (check certificate) s m status text checks = of_whole_call Second certificate (ChecksText s m) status text checks
  answers_whole_call (pieces certificate) s m status text (inl refused) = inl refused
  answers_whole_call (pieces certificate) s m status text (inr (small, reads)) =
      inr (small, of_whole_call Second certificate (SplitsText s m) status text reads)
  answers_whole_call (resolve changes) s m status text reads = of_whole_call Second changes (ResolvesText s m) status text reads
  answers_whole_call question s m status text answers = answers
