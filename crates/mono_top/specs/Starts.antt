-- Which files a call starts, and in which order: the model's alone, or with it those that the question reads after it.
use Rattle.std.specs.Prelude.{◌≡◌, ◌⊎◌, [], ◌∷◌, Option, Some, None}
use Rattle.std.specs.Option.{ForSome}
use Rattle.theory.specs.Grounded.{Entries}
use Rattle.model_text.specs.declared.scale.Scale.{Scale}
use Rattle.outside_io.specs.Files.{Files}
use Rattle.outside_io.specs.Seen.{Seen, Outside, logged}
use Rattle.mono_top.specs.Causes.{Asks}
use Rattle.mono_top.specs.Reading.{IsOpenFor}
use Rattle.mono_top.specs.Request.{Request, about_model, about_trial, about_table, Question, check, pieces, resolve, later_files, files_of}
use Rattle.mono_top.specs.TooBig.{IsTooBigFor}

-- the later files are started only where the first one spells a model that is not too big for the question; words that name no file start none
abbrev pub StartsInTurn : Option Request → Outside → Type 0
StartsInTurn None outside = outside.started []
StartsInTurn (Some (about_trial number)) outside = outside.started []
StartsInTurn (Some (about_table table)) outside = outside.started (table ∷ [])
StartsInTurn (Some (about_model model question)) outside =
    outside.started (model ∷ [])
    ⊎ outside.started (model ∷ later_files question) × ForSome outside.holds (λ files. IsOpenFor question files model)

-- the files that a question reads after the model were started; none where the model is too big for it
abbrev pub StartsLater : Question → Entries → Seen → Seen → Type 0
StartsLater (check certificate) m old new = new.log ≡ logged old.log (certificate ∷ [])
StartsLater (pieces certificate) m old new =
    IsTooBigFor (pieces certificate) m × (new.log ≡ old.log)
    ⊎ (¬ IsTooBigFor (pieces certificate) m) × (new.log ≡ logged old.log (certificate ∷ []))
StartsLater (resolve changes) m old new = new.log ≡ logged old.log (changes ∷ [])
StartsLater question m old new = new.log ≡ old.log

-- a question is asked about a file that spells a model, which is not too big for it
abbrev pub AsksOfModel : Files → Option Request → Type 0
AsksOfModel files request = (question : Question) × (s : Scale) × (m : Entries) × Asks files question s m request × (¬ IsTooBigFor question m)

-- Exactly these files were started. Where the first of them spells a model that is not too
-- big, all of them were, but for a fault of the
-- source or where the call starved.
pub record StartsFiles (request : Option Request) (outside : Outside) (starved : Type 0) : Type 0 where
  pub in_turn : StartsInTurn request outside
  pub all : ForSome outside.holds (λ files. AsksOfModel files request → ¬ outside.faulted → outside.started (files_of request) ⊎ starved)
