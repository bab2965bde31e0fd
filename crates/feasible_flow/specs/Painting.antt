-- The painting by domains: an arc may be passed forward where its flow is below the upper end of its domain, and backward
-- where it is above the lower end.
use Rattle.std.specs.Prelude.{ℕ, ℤ, Bool, true, false, List}
use Rattle.theory.specs.declared.ext.Ext.{Ext}
use Rattle.theory.specs.declared.ext.Ext.TheVariants.{At}
use Rattle.theory.specs.declared.colour.Colour.{Colour}
use Rattle.theory.specs.declared.colour.Colour.TheVariants.{Green, White, Black, Red}
use Rattle.theory.specs.Ends.{is_below}
use Rattle.theory.specs.CurveList.{first, last}
use Rattle.theory.specs.Network.{«at», list_at}

-- by whether an arc is free forward, and backward
abbrev pub shade : Bool → Bool → Colour
shade true true = Green
shade true false = White
shade false true = Black
shade false false = Red

abbrev pub domain_colour : List Ext → ℤ → Colour
domain_colour items x = shade (is_below (At x) (last items)) (is_below (first items) (At x))

abbrev pub painting : List (List Ext) → List ℤ → ℕ → Colour
painting lists x j = domain_colour (list_at lists j) («at» x j)
