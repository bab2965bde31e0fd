-- The cost at the points of a list, and what a curve keeps of it.
use Rattle.std.specs.Prelude.{◌≡◌, ℕ, ◌*◌, ◌/◌, ◌%◌, ◌+◌, ◌<◌, ℤ, pos, false, List, length, slice_index_or}
use Rattle.theory.specs.declared.ext.Ext.{Ext}
use Rattle.theory.specs.declared.ext.Ext.TheVariants.{At}
use Rattle.theory.specs.Ends.{whole, IsFinite, is_below}
use Rattle.theory.specs.CurveList.{Listing, item}
use Rattle.theory.specs.Cost.{cost}

-- item i is a finite point of the list
pub record IsFinitePoint (items : List Ext) (i : ℕ) : Type 0 where
  pub inside : i < length items
  pub even : i % 2 ≡ 0
  pub finite : IsFinite (item items i)

-- the cost at item i
abbrev pub point_cost : Listing → ℕ → ℤ
point_cost c i = cost 1 c (whole (item c.items i))

-- the list at the base 0: its costs are those of the list less the base
abbrev pub bare : List Ext → Listing
bare items = record { items = items; base = pos 0 }

-- the costs at the first points, in their order, less the base; of an infinite point any number
abbrev pub AreKept : List Ext → List ℤ → Type 0
AreKept items costs = (j : ℕ) → j < length costs → IsFinite (item items (2 * j)) → slice_index_or costs j (pos 0) ≡ point_cost (bare items) (2 * j)

-- the flow lies on piece k, its ends included
pub record IsOnPiece (items : List Ext) (k : ℕ) (x : ℤ) : Type 0 where
  pub begun : is_below (At x) (item items (2 * k)) ≡ false
  pub not_ended : is_below (item items (2 * k + 2)) (At x) ≡ false

-- a flow at its cost less the base, where the list has any piece a flow on piece k
pub record IsPriced (items : List Ext) (k : ℕ) (flow price : ℤ) : Type 0 where
  pub on_piece : k < length items / 2 → IsOnPiece items k flow
  pub is_price : price ≡ cost 1 (bare items) flow
