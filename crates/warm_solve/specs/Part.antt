-- A negative sum with one part in another's place: it stays negative, or the answer is none. A part that is none is infinite.
use Rattle.std.specs.Prelude.{◌≡◌, ℕ, ◌^◌, ℤ, pos, ◌+ℤ◌, ◌-ℤ◌, ◌<ℤ◌, ◌≤ℤ◌, Option, None, Some}

abbrev pub IsSumWith : ℤ → Option ℤ → Option ℤ → Option ℤ → Type 0
IsSumWith sum (Some before) (Some now) (Some found) = (found ≡ sum -ℤ before +ℤ now) × (found <ℤ pos 0)
IsSumWith sum (Some before) (Some now) None = pos 0 ≤ℤ (sum -ℤ before +ℤ now)
IsSumWith sum before now (Some found) = ⊥
IsSumWith sum before now None = Unit {0}

-- how large a part is, and the cost of one arc
abbrev pub part_most : ℕ
part_most = 10 ^ 28
