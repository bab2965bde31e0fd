-- Along a step: flow, tension and price over an arc in the direction of a step. The price is the least tension along the
-- step that the next flow in its direction asks for; a step without a price can't be passed.
use Rattle.std.specs.Prelude.{ℕ, ℤ, pos, ◌+ℤ◌, ◌-ℤ◌, neg_ℤ, ◌≤ℤ◌, Bool, true, false, Option, Some, None, List}
use Rattle.theory.specs.declared.ext.Ext.{Ext}
use Rattle.theory.specs.declared.ext.Ext.TheVariants.{MinusInf, At, PlusInf}
use Rattle.theory.specs.declared.network.Step.{Step}
use Rattle.theory.specs.OnCurve.{IsOnCurve}
use Rattle.theory.specs.Network.{Network}
use Rattle.theory.specs.Circuit.{begin_of, end_of}
use Rattle.theory.specs.Limits.{IsWithin, number_most}

abbrev pub directed : Bool → ℤ → ℤ
directed true z = z
directed false z = neg_ℤ z

-- the potential where the step ends less that where it begins
abbrev pub rise : Network → (ℕ → ℤ) → Step → ℤ
rise net u s = u (end_of net s) -ℤ u (begin_of net s)

-- the flow x of the arc and the tension w along the step are a pair of the curve
abbrev pub IsPairAlong : List Ext → Bool → ℤ → ℤ → Type 0
IsPairAlong items forward x w = IsOnCurve 1 items x (directed forward w)

-- the flow x of the arc, moved by an amount in the direction of the step, and by one
abbrev pub moved_by : ℤ → Bool → ℤ → ℤ
moved_by amount forward x = x +ℤ directed forward amount

abbrev pub moved : Bool → ℤ → ℤ
moved = moved_by (pos 1)

pub record IsFinitePrice (items : List Ext) (forward : Bool) (x h : ℤ) : Type 0 where
  pub upto : (v w : ℤ) → IsPairAlong items forward x v → v ≤ℤ w → w ≤ℤ h → IsPairAlong items forward x w
  pub most : (v : ℤ) → IsPairAlong items forward x v → v ≤ℤ h
  pub next : (v : ℤ) → IsPairAlong items forward x v → IsPairAlong items forward (moved forward x) h
  pub small : IsWithin number_most h

pub record IsNoPrice (items : List Ext) (forward : Bool) (x : ℤ) : Type 0 where
  pub beyond : (v w : ℤ) → IsPairAlong items forward x v → v ≤ℤ w → IsPairAlong items forward x w

abbrev pub IsPrice : List Ext → Bool → ℤ → Option ℤ → Type 0
IsPrice items forward x None = IsNoPrice items forward x
IsPrice items forward x (Some h) = IsFinitePrice items forward x h

-- the price by the slopes at the flow
abbrev pub price_up : Ext → Option ℤ
price_up MinusInf = None
price_up (At h) = Some h
price_up PlusInf = None

abbrev pub price_down : Ext → Option ℤ
price_down MinusInf = None
price_down (At l) = Some (neg_ℤ l)
price_down PlusInf = None
