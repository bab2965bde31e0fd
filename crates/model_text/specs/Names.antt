-- Names of nodes and arcs.
use Rattle.std.specs.Prelude.{ℕ, ◌==◌, nat_le, Bool, ◌&&◌, ◌||◌, List, length, IsTrue}
use Rattle.std.specs.List.{list_all}
use Rattle.std.specs.Char.{is_ascii_alphanumeric}
use Rattle.theory.specs.Limits.{name_most}

-- an ASCII letter or digit, `_`, `-`, `.` or `:`
abbrev pub is_name_byte : ℕ → Bool
is_name_byte b = is_ascii_alphanumeric b || b == 95 || b == 45 || b == 46 || b == 58

-- 1 to `name_most` such bytes
abbrev pub is_name : List ℕ → Bool
is_name bytes = nat_le 1 (length bytes) && nat_le (length bytes) name_most && list_all is_name_byte bytes

abbrev pub IsName : List ℕ → Type 0
IsName bytes = IsTrue (is_name bytes)

-- what a clause sees of a `Name`: its bytes, and that they are a name
pub record Named : Type 0 where
  pub bytes : List ℕ
  pub named : IsName bytes
