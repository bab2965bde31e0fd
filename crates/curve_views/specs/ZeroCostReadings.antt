-- Readings of the curve of cost 0, by the two ends of its domain.
use Rattle.std.specs.Prelude.{pos, Bool, true, false, if◌then◌else◌}
use Rattle.theory.specs.declared.ext.Ext.{Ext}
use Rattle.theory.specs.declared.ext.Ext.TheVariants.{MinusInf, At, PlusInf}
use Rattle.theory.specs.Ends.{is_finite}

-- the slope on one side of a flow, by whether that side is past the first end and past the last
abbrev pub slope_past : Bool → Bool → Ext
slope_past false false = MinusInf
slope_past false true = MinusInf
slope_past true false = At (pos 0)
slope_past true true = PlusInf

-- the end of the span where the domain has this one
abbrev pub slope_or : Ext → Ext → Ext
slope_or e infinite = if is_finite e then infinite else At (pos 0)
