-- A whole number between two ends, where there is one: the lower end, else the upper one, else 0.
use Rattle.std.specs.Prelude.{ℤ, pos}
use Rattle.theory.specs.declared.ext.Ext.{Ext}
use Rattle.theory.specs.declared.ext.Ext.TheVariants.{MinusInf, At, PlusInf}

abbrev pub flow_between : Ext → Ext → ℤ
flow_between (At a) high = a
flow_between MinusInf (At b) = b
flow_between PlusInf (At b) = b
flow_between low high = pos 0
