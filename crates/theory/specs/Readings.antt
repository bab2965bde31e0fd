-- Readings of a curve: the tensions that are on the curve with a flow, and the flows that are on it with a tension.
-- Either is a range between two ends. Outside the domain, or the span, both ends are the infinity of that side.
use Rattle.std.specs.Prelude.{◌≡◌, ◌↔◌, ℤ, ◌≤ℤ◌, List}
use Rattle.theory.specs.declared.ext.Ext.{Ext}
use Rattle.theory.specs.declared.ext.Ext.TheVariants.{MinusInf, At, PlusInf}
use Rattle.theory.specs.Ends.{IsBelow}
use Rattle.theory.specs.CurveList.{first, last}
use Rattle.theory.specs.Span.{span_low, span_high}
use Rattle.theory.specs.OnCurve.{IsOnCurve}

-- the end is at or under the number, at or over it
abbrev pub IsUnder : Ext → ℤ → Type 0
IsUnder MinusInf z = Unit {0}
IsUnder (At a) z = a ≤ℤ z
IsUnder PlusInf z = ⊥

abbrev pub IsOver : Ext → ℤ → Type 0
IsOver MinusInf z = ⊥
IsOver (At b) z = z ≤ℤ b
IsOver PlusInf z = Unit {0}

pub record AreBoth (e low high : Ext) : Type 0 where
  pub one : low ≡ e
  pub other : high ≡ e

-- low and high are the slopes at the flow x: of the piece on its left and of the piece on its right
pub record IsSlopes (items : List Ext) (x : ℤ) (low high : Ext) : Type 0 where
  pub pairs : (v : ℤ) → IsOnCurve 1 items x v ↔ (IsUnder low v × IsOver high v)
  pub below : IsBelow (At x) (first items) → AreBoth MinusInf low high
  pub above : IsBelow (last items) (At x) → AreBoth PlusInf low high

-- low and high are the ends of the flows at the tension v
pub record IsRange (items : List Ext) (v : ℤ) (low high : Ext) : Type 0 where
  pub pairs : (x : ℤ) → IsOnCurve 1 items x v ↔ (IsUnder low x × IsOver high x)
  pub below : IsBelow (At v) (span_low items) → AreBoth MinusInf low high
  pub above : IsBelow (span_high items) (At v) → AreBoth PlusInf low high
