-- Span: the tensions of finite conjugate cost. An end of it is a slope where the domain has no end on that side.
use Rattle.std.specs.Prelude.{ℕ, ℤ, pos, List, if◌then◌else◌}
use Rattle.theory.specs.declared.ext.Ext.{Ext}
use Rattle.theory.specs.declared.ext.Ext.TheVariants.{MinusInf, PlusInf}
use Rattle.theory.specs.Ends.{is_finite, IsBetween}
use Rattle.theory.specs.CurveList.{item, first, last, before_last}
use Rattle.theory.specs.Domain.{clip}

abbrev pub span_low : List Ext → Ext
span_low items = if is_finite (first items) then MinusInf else item items 1

abbrev pub span_high : List Ext → Ext
span_high items = if is_finite (last items) then PlusInf else before_last items

-- w / q lies in the span
abbrev pub InSpan : ℕ → List Ext → ℤ → Type 0
InSpan q items w = IsBetween q (span_low items) (span_high items) w

-- the point of the span nearest to 0
abbrev pub rest_tension : List Ext → ℤ
rest_tension items = clip 1 (span_low items) (span_high items) (pos 0)
