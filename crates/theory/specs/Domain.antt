-- Domain: the flows of finite cost, from the first point to the last. Rest point: its point nearest to 0.
use Rattle.std.specs.Prelude.{ℕ, ℤ, pos, ◌*ℤ◌, List}
use Rattle.std.specs.Int.{int_min, int_max}
use Rattle.theory.specs.declared.ext.Ext.{Ext}
use Rattle.theory.specs.declared.ext.Ext.TheVariants.{MinusInf, At, PlusInf}
use Rattle.theory.specs.Ends.{IsBetween}
use Rattle.theory.specs.CurveList.{first, last}

-- x / q lies in the domain
abbrev pub InDomain : ℕ → List Ext → ℤ → Type 0
InDomain q items x = IsBetween q (first items) (last items) x

-- x moved up to q times the end, down to q times the end; an infinite end moves nothing
abbrev pub raised : ℕ → Ext → ℤ → ℤ
raised q MinusInf x = x
raised q (At a) x = int_max (pos q *ℤ a) x
raised q PlusInf x = x

abbrev pub lowered : ℕ → Ext → ℤ → ℤ
lowered q MinusInf x = x
lowered q (At b) x = int_min (pos q *ℤ b) x
lowered q PlusInf x = x

-- x moved into the range from q times the left end to q times the right end
abbrev pub clip : ℕ → Ext → Ext → ℤ → ℤ
clip q left right x = lowered q right (raised q left x)

abbrev pub rest_point : List Ext → ℤ
rest_point items = clip 1 (first items) (last items) (pos 0)
