-- What arcs and steps add to cut sums and span sums.
use Rattle.std.specs.Prelude.{ℤ, pos, Bool, not, ◌&&◌, if◌then◌else◌, Option, Some, None, List}
use Rattle.theory.specs.declared.ext.Ext.{Ext}
use Rattle.theory.specs.declared.ext.Ext.TheVariants.{MinusInf, At, PlusInf}
use Rattle.theory.specs.Ends.{negated}
use Rattle.theory.specs.CurveList.{first, last}

-- the number that an end adds, if it is finite
abbrev pub part_of : Ext → Option ℤ
part_of MinusInf = None
part_of (At a) = Some a
part_of PlusInf = None

-- the end that a curve adds to the sum of a cut, by whether the set holds the arc's tail and its head
abbrev pub crossing_end : List Ext → Bool → Bool → Ext
crossing_end items at_tail at_head =
    if at_tail && not at_head then last items else (if not at_tail && at_head then negated (first items) else (At (pos 0)))
