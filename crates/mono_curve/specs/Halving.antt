-- Where a test turns: what a halving search finds.
use Rattle.std.specs.Prelude.{◌≡◌, ℕ, ◌+◌, ◌-◌, ◌*◌, ◌/◌, ◌<◌, ◌≤◌, Bool, true, false, not, List, length}
use Rattle.theory.specs.declared.ext.Ext.{Ext}
use Rattle.theory.specs.declared.ext.Ext.TheVariants.{MinusInf, PlusInf}
use Rattle.theory.specs.Ends.{is_below}
use Rattle.theory.specs.CurveList.{item}

-- of the numbers below the count, the test holds of those below k and of no other
pub record IsTurn (test : ℕ → Bool) (count k : ℕ) : Type 0 where
  pub within : k ≤ count
  pub before : (j : ℕ) → j < k → test j ≡ true
  pub after : (j : ℕ) → k ≤ j → j < count → test j ≡ false

-- how many points a list has (from place 0), how many slopes (from place 1)
abbrev pub count_from : List Ext → ℕ → ℕ
count_from items start = (length items + 1 - start) / 2

-- the points, the slopes, that are below an end; those that are not above it
abbrev pub is_item_below : List Ext → ℕ → Ext → ℕ → Bool
is_item_below items start end j = is_below (item items (2 * j + start)) end

abbrev pub is_item_up_to : List Ext → ℕ → Ext → ℕ → Bool
is_item_up_to items start end j = not (is_below end (item items (2 * j + start)))

-- e is the slope before the point k: none stands before the first, and after the last
pub record IsSlopeBefore (items : List Ext) (k : ℕ) (e : Ext) : Type 0 where
  pub at_first : k ≡ 0 → e ≡ MinusInf
  pub inside : (j : ℕ) → k ≡ j + 1 → j < length items / 2 → e ≡ item items (2 * j + 1)
  pub past_last : length items / 2 < k → e ≡ PlusInf
