-- The scale of a model: how many decimals its flows and its tensions are written with. All numbers of a model are whole:
-- a flow counts units of 10^-flow, a tension units of 10^-tension, and a cost, a value or a base units of both at once.
use Rattle.std.specs.Prelude.{ℕ, ◌+◌, ◌==◌, nat_le, Bool, ◌&&◌, ◌||◌, IsTrue}
use Rattle.model_text.specs.declared.scale.Scale.{Scale}

-- the most decimals of flows, and of tensions
abbrev pub decimals_most : ℕ
decimals_most = 6

-- version 1 has no decimals, version 2 at most so many of each
abbrev pub is_scale : Scale → Bool
is_scale s =
    (s.version == 1 && s.flow == 0 && s.tension == 0)
    || (s.version == 2 && nat_le s.flow decimals_most && nat_le s.tension decimals_most)

abbrev pub IsScale : Scale → Type 0
IsScale s = IsTrue (is_scale s)

-- the scale of version 1
abbrev pub plain : Scale
plain = record { version = 1; flow = 0; tension = 0 }

-- that of version 2 with so many decimals
abbrev pub with_decimals : ℕ → ℕ → Scale
with_decimals flow tension = record { version = 2; flow = flow; tension = tension }

-- the decimals of a cost, a value and a base
abbrev pub cost_decimals : Scale → ℕ
cost_decimals s = s.flow + s.tension
