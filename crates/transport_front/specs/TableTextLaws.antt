-- Laws of the text of a table: what reading a text gives is a function of the text.
use Rattle.std.specs.Prelude.{◌≡◌, ℕ, List}
use Rattle.transport_front.specs.Table.{Table}
use Rattle.transport_front.specs.TableText.{Spells, IsFirstFault}
use Rattle.transport_front.specs.declared.fault.TableWord.{TableWord}

-- a text spells at most one table
abbrev pub OneTableLaw : Type 0
OneTableLaw = (text : List ℕ) (t s : Table) → Spells text t → Spells text s → t ≡ s

-- a text that spells a table has no first fault
abbrev pub SpelledOrBadLaw : Type 0
SpelledOrBadLaw = (text : List ℕ) (t : Table) (line : ℕ) (word : TableWord) → Spells text t → IsFirstFault text line word → ⊥

-- a text has at most one first fault
abbrev pub OneFaultLaw : Type 0
OneFaultLaw = (text : List ℕ) (line others : ℕ) (word other : TableWord) → IsFirstFault text line word → IsFirstFault text others other
    → (line ≡ others) × (word ≡ other)
