-- Levels of a curve, from the coarsest down to level 0, which is the curve itself: what a method by levels asks of them.
-- Two networks by levels, a flow near to a given one, and how deep a level may lie.
use Rattle.std.specs.Prelude.{◌≡◌, ℕ, ◌<◌, ℤ, ◌-ℤ◌, List, length}
use Rattle.theory.specs.declared.ext.Ext.{Ext}
use Rattle.theory.specs.Span.{span_low, span_high}
use Rattle.theory.specs.OnCurve.{IsOnCurve}
use Rattle.theory.specs.Network.{Network, curve}
use Rattle.theory.specs.Views.{level_items}
use Rattle.theory.specs.Limits.{IsWithin}

-- the number of the coarsest level that a view shows
abbrev pub coarsest : ℕ
coarsest = 40

-- some flow is on the curve with the tension v, no further than this from the flow x
pub record HasFlowNear (most : ℕ) (items : List Ext) (x v : ℤ) : Type 0 where
  pub flow : ℤ
  pub pair : IsOnCurve 1 items flow v
  pub near : IsWithin most (flow -ℤ x)

-- the other curve has the same span
pub record IsSameSpan (items other : List Ext) : Type 0 where
  pub low : span_low other ≡ span_low items
  pub high : span_high other ≡ span_high items

-- the other network has the same nodes and arcs, and each curve at level k
pub record IsAtLevel (k : ℕ) (net other : Network) : Type 0 where
  pub nodes : other.nodes ≡ net.nodes
  pub arcs : other.arcs ≡ net.arcs
  pub curves : (j : ℕ) → j < length net.arcs → (curve other j).items ≡ level_items k (curve net j).items
