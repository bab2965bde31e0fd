-- Laws of a curve that is read at whole flows and tensions. Each holds of every curve list.
use Rattle.std.specs.Prelude.{◌≡◌, ℕ, ◌+◌, ◌*◌, ◌/◌, ◌<◌, ℤ, ◌≤ℤ◌, ◌<ℤ◌, ◌↔◌, List, length}
use Rattle.theory.specs.declared.ext.Ext.{Ext}
use Rattle.theory.specs.declared.ext.Ext.TheVariants.{MinusInf, At, PlusInf}
use Rattle.theory.specs.Ends.{IsAtLeast, IsAtMost, IsPast, IsBefore}
use Rattle.theory.specs.CurveList.{IsCurveList, item, first, last}
use Rattle.theory.specs.Domain.{InDomain}
use Rattle.theory.specs.Span.{InSpan}
use Rattle.theory.specs.OnCurve.{IsOnCurve}
use Rattle.theory.specs.Readings.{IsSlopes, IsRange, IsUnder, IsOver}

-- a flow and a tension are a pair exactly where the tension lies between the two slopes
abbrev pub SlopesLaw : List Ext → Type 0
SlopesLaw items = (x v : ℤ) (low high : Ext) → IsSlopes items x low high → IsOnCurve 1 items x v ↔ (IsUnder low v × IsOver high v)

-- and exactly where the flow lies between the two ends of the range
abbrev pub RangeLaw : List Ext → Type 0
RangeLaw items = (v x : ℤ) (low high : Ext) → IsRange items v low high → IsOnCurve 1 items x v ↔ (IsUnder low x × IsOver high x)

-- of two pairs the one with the greater flow hasn't the lesser tension
abbrev pub PairsRise : List Ext → Type 0
PairsRise items = (q : ℕ) (x v y w : ℤ) → IsOnCurve q items x v → IsOnCurve q items y w → x <ℤ y → v ≤ℤ w

-- every whole flow of the domain has a whole tension, every whole tension of the span a whole flow
abbrev pub FlowsHaveTensions : List Ext → Type 0
FlowsHaveTensions items = (x : ℤ) → InDomain 1 items x → (v : ℤ) × IsOnCurve 1 items x v

abbrev pub TensionsHaveFlows : List Ext → Type 0
TensionsHaveFlows items = (v : ℤ) → InSpan 1 items v → (x : ℤ) × IsOnCurve 1 items x v

-- ---- the slopes at a flow, by the pieces on its two sides

-- that of the piece that ends at or contains the flow on its left, or none at the first point; the same on the right
pub record AreOfPieces (items : List Ext) (x : ℤ) (low high : Ext) : Type 0 where
  pub left : (k : ℕ) → k < length items / 2 → IsPast 1 (item items (2 * k)) x → IsAtMost 1 (item items (2 * k + 2)) x → low ≡ item items (2 * k + 1)
  pub at_first : first items ≡ At x → low ≡ MinusInf
  pub right : (k : ℕ) → k < length items / 2 → IsAtLeast 1 (item items (2 * k)) x → IsBefore 1 (item items (2 * k + 2)) x → high ≡ item items (2 * k + 1)
  pub at_last : last items ≡ At x → high ≡ PlusInf

abbrev pub SlopesOfPiecesLaw : Type 0
SlopesOfPiecesLaw = (items : List Ext) (x : ℤ) (low high : Ext) → IsCurveList items → IsSlopes items x low high → AreOfPieces items x low high
