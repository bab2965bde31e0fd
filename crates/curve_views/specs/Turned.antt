-- How long the conjugate list is: at either end an infinite item goes, or gets one beside it.
use Rattle.std.specs.Prelude.{ℕ, zero, suc, ◌+◌, ◌-◌, ◌*◌, ◌/◌, Bool, true, false, if◌then◌else◌}
use Rattle.theory.specs.declared.ext.Ext.{Ext}
use Rattle.theory.specs.Ends.{is_finite}

abbrev pub turned_length : Ext → ℕ → ℕ
turned_length e n = if is_finite e then n + 1 else (n - 1)

-- the number of the piece whose slope is point i of the conjugate, by whether the list begins with a finite point
abbrev pub slope_number : Bool → ℕ → ℕ
slope_number true i = i / 2 - 1
slope_number false i = i / 2

-- where an end of piece k stands: its left one, which of the first piece may be infinite
abbrev pub end_to_look_at : Bool → ℕ → ℕ
end_to_look_at true k = 2 * k
end_to_look_at false zero = 2
end_to_look_at false (suc k) = 2 * suc k
