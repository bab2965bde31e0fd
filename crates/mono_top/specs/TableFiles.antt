-- Requests about a table, by the files that the source holds; and how often such a call reads curves: within the bound of the model that the
-- table stands for.
use Rattle.std.specs.Prelude.{◌≡◌, ℕ, ◌+◌, ◌≤◌, List, Option, Some}
use Rattle.std.specs.Option.{ForSome}
use Rattle.theory.specs.Grounded.{grounded}
use Rattle.outside_io.specs.Files.{Files}
use Rattle.transport_front.specs.Table.{Table, compiled}
use Rattle.transport_front.specs.TableText.{Spells, IsFirstFault}
use Rattle.transport_front.specs.declared.fault.TableWord.{TableWord}
use Rattle.mono_top.specs.NetBound.{net_bound}
use Rattle.mono_top.specs.Reading.{IsFileWith}
use Rattle.mono_top.specs.Request.{Request, about_table}

abbrev pub AsksOfTable : Files → (List ℕ → Type 0) → Option Request → Type 0
AsksOfTable files P request = (table : List ℕ) × (request ≡ Some (about_table table)) × IsFileWith files table P

-- `transport` was asked for, of a file that spells this table
abbrev pub AsksTable : Files → Table → Option Request → Type 0
AsksTable files t request = AsksOfTable files (λ text. Spells text t) request

-- `transport` was asked for, and this first fault is the text's
abbrev pub AsksFaultyTable : Files → ℕ → TableWord → Option Request → Type 0
AsksFaultyTable files line word request = AsksOfTable files (λ text. IsFirstFault text line word) request

-- of a text; where it spells no table nothing is read
pub record ReadsTableText (bytes : List ℕ) (before now : ℕ) : Type 0 where
  pub no_fewer : before ≤ now
  pub bounded : (t : Table) → Spells bytes t → now ≤ before + net_bound (grounded (compiled t))
  pub unread : ((t : Table) → Spells bytes t → ⊥) → now ≡ before

-- of the text of a file, where the source tells its files
pub record ReadsTableFile (table : List ℕ) (holds : Option Files) (before now : ℕ) : Type 0 where
  pub no_fewer : before ≤ now
  pub bounded : ForSome holds (λ files. (t : Table) → IsFileWith files table (λ text. Spells text t) → now ≤ before + net_bound (grounded (compiled t)))
  pub unread : ForSome holds (λ files. (IsFileWith files table (λ text. (t : Table) × Spells text t) → ⊥) → now ≡ before)
