-- Painting: a colour for each arc says which steps over it are free (Rockafellar: painted network).
use Rattle.std.specs.Prelude.{Bool, true, false, IsTrue}
use Rattle.theory.specs.declared.colour.Colour.{Colour}
use Rattle.theory.specs.declared.colour.Colour.TheVariants.{Green, White, Black, Red}

-- whether the step forward (true), backward (false), is free
abbrev pub is_free : Colour → Bool → Bool
is_free Green forward = true
is_free White true = true
is_free White false = false
is_free Black true = false
is_free Black false = true
is_free Red forward = false

abbrev pub IsFree : Colour → Bool → Type 0
IsFree colour forward = IsTrue (is_free colour forward)
