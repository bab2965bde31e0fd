-- Lists of entries while they are written: row after row, each of this width.
use Rattle.std.specs.Prelude.{◌≡◌, ◌≢◌, ℕ, ◌+◌, ◌*◌, ◌<◌, ◌≤◌, ◌==◌, ◌&&◌, nat_lt, ℤ, pos, ◌-ℤ◌, ◌*ℤ◌, neg_ℤ, List, length, if◌then◌else◌}
use Rattle.theory.specs.Limits.{IsWithin}
use Rattle.theory.specs.Network.{Network}
use Rattle.tucker_tableau.specs.Table.{cell}
use Rattle.tucker_tableau.specs.Pivoted.{pivoted}
use Rattle.tucker_tableau.specs.First.{star}

-- 1, -1 or 0
abbrev pub IsUnit : ℤ → Type 0
IsUnit z = IsWithin 1 z

abbrev pub AreUnits : ℕ → List ℤ → ℕ → Type 0
AreUnits width table i = (j : ℕ) → j < width → IsUnit (cell table width i j)

-- the row i less a multiple of the row r, up to column j
pub record IsLessRow (width : ℕ) (old new : List ℤ) (r i : ℕ) (factor : ℤ) (upto : ℕ) : Type 0 where
  pub size : length new ≡ length old
  pub done : (j : ℕ) → j < width → j < upto → cell new width i j ≡ cell old width i j -ℤ factor *ℤ cell old width r j
  pub later : (j : ℕ) → j < width → upto ≤ j → cell new width i j ≡ cell old width i j
  pub others : (k j : ℕ) → k ≢ i → j < width → cell new width k j ≡ cell old width k j

-- the row r times -p, up to column j
pub record IsScaledRow (width : ℕ) (old new : List ℤ) (r : ℕ) (p : ℤ) (upto : ℕ) : Type 0 where
  pub size : length new ≡ length old
  pub done : (j : ℕ) → j < width → j < upto → cell new width r j ≡ neg_ℤ (p *ℤ cell old width r j)
  pub later : (j : ℕ) → j < width → upto ≤ j → cell new width r j ≡ cell old width r j
  pub others : (k j : ℕ) → k ≢ r → j < width → cell new width k j ≡ cell old width k j

-- the row i after a pivot, and nothing else
pub record IsRowPivoted (width : ℕ) (old new : List ℤ) (r s i : ℕ) : Type 0 where
  pub size : length new ≡ length old
  pub done : (j : ℕ) → j < width → cell new width i j ≡ pivoted (cell old width) r s i j
  pub others : (k j : ℕ) → k ≢ i → j < width → cell new width k j ≡ cell old width k j

-- the rows below i but row r
pub record AreRowsPivoted (width : ℕ) (old new : List ℤ) (r s i : ℕ) : Type 0 where
  pub size : length new ≡ length old
  pub done : (k j : ℕ) → k < i → k ≢ r → j < width → cell new width k j ≡ pivoted (cell old width) r s k j
  pub later : (k j : ℕ) → i ≤ k → j < width → cell new width k j ≡ cell old width k j
  pub pivot_row : (j : ℕ) → j < width → cell new width r j ≡ cell old width r j

pub record IsTablePivoted (height width : ℕ) (old new : List ℤ) (r s : ℕ) : Type 0 where
  pub size : length new ≡ length old
  pub cells : (k j : ℕ) → k < height → j < width → cell new width k j ≡ pivoted (cell old width) r s k j

-- one number written, in the row of a node above the ground
pub record IsMarked (width : ℕ) (old new : List ℤ) (node column : ℕ) (value : ℤ) : Type 0 where
  pub size : length new ≡ length old
  pub cells : (i j : ℕ) → j < width → cell new width i j ≡ (if node == i + 1 && j == column then value else cell old width i j)

-- the first tableau up to column j, 0 beyond
abbrev pub star_up_to : Network → ℕ → ℕ → ℕ → ℕ → ℤ
star_up_to net n upto i j = if nat_lt j upto then star net n i j else pos 0

pub record IsStar (net : Network) (n width : ℕ) (table : List ℤ) (upto : ℕ) : Type 0 where
  pub size : length table ≡ n * width
  pub cells : (i j : ℕ) → i < n → j < width → cell table width i j ≡ star_up_to net n upto i j
