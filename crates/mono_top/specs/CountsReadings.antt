-- How often a call reads curves: within the bound of the model that its file spells or its number draws, and else not at all. With changes it is
-- within the bound once, and twice more for each of them. No bound is stated for a greatest flow.
use Rattle.std.specs.Prelude.{◌≡◌, ℕ, ◌+◌, ◌*◌, ◌≤◌, List, length, Option, Some, None, IfSome}
use Rattle.std.specs.Option.{ForSome}
use Rattle.theory.specs.Grounded.{Entries, grounded}
use Rattle.outside_io.specs.Files.{Files}
use Rattle.model_text.specs.ModelText.{Spells}
use Rattle.model_text.specs.declared.scale.Scale.{Scale}
use Rattle.warm_solve.specs.ChangesText.{Change, changes_most, Spells as SpellsChanges}
use Rattle.mono_top.specs.NetBound.{net_bound}
use Rattle.mono_top.specs.Reading.{IsFileWith, IsModelFile}
use Rattle.mono_top.specs.Request.{Request, about_model, about_trial, about_table, Question, solve, resolve, feasible, greatest_flow, greatest_tension}
use Rattle.mono_top.specs.TableFiles.{ReadsTableFile}
use Rattle.trial_model.specs.Trial.{trial_entries}

-- of a solve, and of so many changes
abbrev pub resolve_bound : ℕ → Entries → ℕ
resolve_bound count m = (2 * count + 1) * net_bound (grounded m)

-- the most readings of a model's curves that a question about it takes, where a bound is stated; one that is not named here takes none
abbrev pub readings_most : Question → Entries → Option ℕ
readings_most solve m = Some (net_bound (grounded m))
readings_most (resolve changes) m = Some (resolve_bound changes_most m)
readings_most feasible m = Some (net_bound (grounded m))
readings_most (greatest_flow from to) m = None
readings_most (greatest_tension from to) m = Some (net_bound (grounded m))
readings_most question m = Some 0

-- of the changes that the text spells of the model; where it spells none, nothing is read
pub record ReadsChangesText (s : Scale) (m : Entries) (bytes : List ℕ) (before now : ℕ) : Type 0 where
  pub no_fewer : before ≤ now
  pub most : now ≤ before + resolve_bound changes_most m
  pub bounded : (changes : List Change) → SpellsChanges s m bytes changes → now ≤ before + resolve_bound (length changes) m
  pub unread : ((changes : List Change) → SpellsChanges s m bytes changes → ⊥) → now ≡ before

-- the same of the text of a file
pub record ReadsChangesFile (files : Files) (name : List ℕ) (s : Scale) (m : Entries) (before now : ℕ) : Type 0 where
  pub bounded : (changes : List Change) → IsFileWith files name (λ text. SpellsChanges s m text changes) → now ≤ before + resolve_bound (length changes) m
  pub unread : (IsFileWith files name (λ text. (changes : List Change) × SpellsChanges s m text changes) → ⊥) → now ≡ before

abbrev pub ReadsChanges : Question → Files → Scale → Entries → ℕ → ℕ → Type 0
ReadsChanges (resolve changes) files s m before now = ReadsChangesFile files changes s m before now
ReadsChanges question files s m before now = Unit {0}

-- of a model at hand
pub record ReadsCurves (question : Question) (m : Entries) (before now : ℕ) : Type 0 where
  pub no_fewer : before ≤ now
  pub bounded : IfSome (readings_most question m) (λ most. now ≤ before + most)

-- of the model that the file spells, where the source tells its files; where the file spells none, nothing is read
pub record ReadsWithin (model : List ℕ) (question : Question) (holds : Option Files) (before now : ℕ) : Type 0 where
  pub no_fewer : before ≤ now
  pub stays : ((m : Entries) → readings_most question m ≡ Some 0) → now ≡ before
  pub bounded : ForSome holds (λ files. (s : Scale) (m : Entries) → IsFileWith files model (λ text. Spells text s m)
      → IfSome (readings_most question m) (λ most. now ≤ before + most))
  pub changes : ForSome holds (λ files. (s : Scale) (m : Entries) → IsFileWith files model (λ text. Spells text s m) → ReadsChanges question files s m before now)
  pub unread : ForSome holds (λ files. ¬ IsModelFile files model → now ≡ before)

abbrev pub CountsReadings : Option Request → Option Files → ℕ → ℕ → Type 0
CountsReadings None holds before now = now ≡ before
CountsReadings (Some (about_model model question)) holds before now = ReadsWithin model question holds before now
CountsReadings (Some (about_trial number)) holds before now = ReadsCurves solve (trial_entries number) before now
CountsReadings (Some (about_table table)) holds before now = ReadsTableFile table holds before now
