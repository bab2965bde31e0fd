-- Laws of levels. They carry a method that goes down level by level, doubles what it found and mends it: at the top nearly
-- nothing is to mend, after doubling at most 1 on each arc, and a cut that shows that there is no flow shows it at every level.
use Rattle.std.specs.Prelude.{ℕ, ◌+◌, ◌*◌, ◌^◌, ◌<◌, ℤ, pos, ◌*ℤ◌, Bool, List}
use Rattle.theory.specs.declared.ext.Ext.{Ext}
use Rattle.theory.specs.CurveList.{IsCurveList}
use Rattle.theory.specs.Domain.{InDomain}
use Rattle.theory.specs.Span.{InSpan}
use Rattle.theory.specs.OnCurve.{IsOnCurve}
use Rattle.theory.specs.Network.{Network, IsNetwork}
use Rattle.theory.specs.Cut.{IsNegativeCut}
use Rattle.theory.specs.Views.{level_items}
use Rattle.theory.specs.Limits.{AreWithin}
use Rattle.curve_views.specs.Levels.{HasFlowNear, IsSameSpan, IsAtLevel}

-- the domain of a level has every flow of the domain, divided by 2 ^ k
abbrev pub LevelDomainLaw : Type 0
LevelDomainLaw = (q k : ℕ) (items : List Ext) (x : ℤ) → IsCurveList items → InDomain q items x → InDomain (q * 2 ^ k) (level_items k items) x

-- its span is the span of the curve
abbrev pub LevelSpanLaw : Type 0
LevelSpanLaw = (k : ℕ) (items : List Ext) → IsCurveList items → IsSameSpan items (level_items k items)

-- where all numbers are below 2 ^ k, each tension of the span has one of the flows -1, 0 and 1
abbrev pub TopLevelLaw : Type 0
TopLevelLaw = (n k : ℕ) (items : List Ext) (v : ℤ) → n < 2 ^ k → IsCurveList items → AreWithin n items → InSpan 1 items v
    → HasFlowNear 1 (level_items k items) (pos 0) v

-- a flow of one level, doubled, is at most 1 from a flow of the next finer one at the same tension
abbrev pub DoubledLaw : Type 0
DoubledLaw = (k : ℕ) (items : List Ext) (x v : ℤ) → IsCurveList items → IsOnCurve 1 (level_items (k + 1) items) x v
    → HasFlowNear 1 (level_items k items) (pos 2 *ℤ x) v

-- a negative cut of a level is one of the network itself
abbrev pub LevelCutLaw : Type 0
LevelCutLaw = (k : ℕ) (net other : Network) (side : List Bool) → IsNetwork net → IsAtLevel k net other → IsNegativeCut other side
    → IsNegativeCut net side
