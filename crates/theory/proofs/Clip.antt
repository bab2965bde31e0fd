-- Numbers moved into a range: raised to the lower end, then lowered to the upper one. At an infinite end nothing moves, so each
-- fact goes case by case over the two ends, and between two finite ones it is the arithmetic of the least and the greatest of
-- two numbers. Where two numbers come to different places x is not moved down to the end, and y not up to the beginning, since
-- that would make them one place. A range wants its ends in order (`IsBelow`) only where both ends bind the same number.
-- Scaling all by q scales the place by q, since q times the least of two is the least of q times each.
use Rattle.std.proofs.Common.{◌≡◌, ℕ, ◌≤◌, true, false, ℤ, pos, ◌≤ℤ◌, ◌<ℤ◌, refl, sym, ap, ◌∙◌, arith}
use Rattle.std.specs.Prelude.{◌*ℤ◌}
use Rattle.std.specs.Int.{int_min, int_max}
use Rattle.std.proofs.lemmas.Int.{ints, clamps}
use Rattle.theory.specs.declared.ext.Ext.{Ext}
use Rattle.theory.specs.declared.ext.Ext.TheVariants.{MinusInf, At, PlusInf}
use Rattle.theory.specs.Ends.{IsBelow, IsBetween, IsPast, IsBefore}
use Rattle.theory.specs.Domain.{raised, lowered, clip}
use Rattle.theory.proofs.Rings.{scale_mono, scale_strict, one_times, int_min-scale, int_max-scale}

pub raised_least : (q : ℕ) (e : Ext) (x : ℤ) → x ≤ℤ raised q e x
raised_least q MinusInf x = omega (arith, ints)
raised_least q (At a) x = omega (arith, ints, clamps)
raised_least q PlusInf x = omega (arith, ints)

-- what is raised is moved no more by a number that is not past the end
raised_same : (q : ℕ) (e : Ext) (x y : ℤ) → raised q e x <ℤ raised q e y → IsPast q e y
raised_same q MinusInf x y h = tt
raised_same q (At a) x y h = omega (arith, ints, clamps)
raised_same q PlusInf x y h = tt

lowered_apart : (q : ℕ) (e : Ext) (x y : ℤ) → lowered q e x <ℤ lowered q e y → x <ℤ y
lowered_apart q MinusInf x y h = h
lowered_apart q (At b) x y h = omega (arith, ints, clamps)
lowered_apart q PlusInf x y h = h

lowered_before : (q : ℕ) (e : Ext) (x y z : ℤ) → z ≤ℤ x → lowered q e x <ℤ lowered q e y → IsBefore q e z
lowered_before q MinusInf x y z l h = tt
lowered_before q (At b) x y z l h = omega (arith, ints, clamps)
lowered_before q PlusInf x y z l h = tt

-- a number whose place in a range is less than another's is before the end of the range, the other past its beginning
pub clip_before : (q : ℕ) (l r : Ext) (x y : ℤ) → clip q l r x <ℤ clip q l r y → IsBefore q r x
clip_before q l r x y h = lowered_before q r (raised q l x) (raised q l y) x (raised_least q l x) h

pub clip_past : (q : ℕ) (l r : Ext) (x y : ℤ) → clip q l r x <ℤ clip q l r y → IsPast q l y
clip_past q l r x y h = raised_same q l x y (lowered_apart q r (raised q l x) (raised q l y) h)

-- two numbers at one place of a proper range are past its beginning, or before its end, together
pub clip_past_same : (q : ℕ) (l r : Ext) (x y : ℤ) → 1 ≤ q → IsBelow l r → clip q l r x ≡ clip q l r y → IsPast q l x → IsPast q l y
clip_past_same q MinusInf r x y positive below same past = tt
clip_past_same q (At a) MinusInf x y positive below same past = let h : false ≡ true = below in cc
clip_past_same q (At a) (At b) x y positive below same past = let m = scale_strict q a b positive (omega (arith, ints)) in omega (arith, ints, clamps)
clip_past_same q (At a) PlusInf x y positive below same past = omega (arith, ints, clamps)
clip_past_same q PlusInf r x y positive below same past = tt

pub clip_before_same : (q : ℕ) (l r : Ext) (x y : ℤ) → 1 ≤ q → IsBelow l r → clip q l r x ≡ clip q l r y → IsBefore q r x → IsBefore q r y
clip_before_same q l MinusInf x y positive below same before = tt
clip_before_same q MinusInf (At b) x y positive below same before = omega (arith, ints, clamps)
clip_before_same q (At a) (At b) x y positive below same before = let m = scale_strict q a b positive (omega (arith, ints)) in omega (arith, ints, clamps)
clip_before_same q PlusInf (At b) x y positive below same before = let h : false ≡ true = below in cc
clip_before_same q l PlusInf x y positive below same before = tt

-- what is moved into a range is in it
pub clip_between : (q : ℕ) (l r : Ext) (x : ℤ) → IsBelow l r → IsBetween q l r (clip q l r x)
clip_between q MinusInf MinusInf x below = record { least = tt; most = tt }
clip_between q MinusInf (At b) x below = record { least = tt; most = omega (arith, ints, clamps) }
clip_between q MinusInf PlusInf x below = record { least = tt; most = tt }
clip_between q (At a) MinusInf x below = let h : false ≡ true = below in cc
clip_between q (At a) (At b) x below = let m = scale_mono q a b (omega (arith, ints)) in record { least = omega (arith, ints, clamps); most = omega (arith, ints, clamps) }
clip_between q (At a) PlusInf x below = record { least = omega (arith, ints, clamps); most = tt }
clip_between q PlusInf r x below = let h : false ≡ true = below in cc

-- and what is in it is not moved
pub clip_same : (q : ℕ) (l r : Ext) (x : ℤ) → IsBetween q l r x → clip q l r x ≡ x
clip_same q MinusInf MinusInf x within = refl
clip_same q MinusInf (At b) x within = omega (arith, ints, clamps, within)
clip_same q MinusInf PlusInf x within = refl
clip_same q (At a) MinusInf x within = omega (arith, ints, clamps, within)
clip_same q (At a) (At b) x within = omega (arith, ints, clamps, within)
clip_same q (At a) PlusInf x within = omega (arith, ints, clamps, within)
clip_same q PlusInf MinusInf x within = refl
clip_same q PlusInf (At b) x within = omega (arith, ints, clamps, within)
clip_same q PlusInf PlusInf x within = refl

-- what is at most the beginning is moved to it, what is at least the end to that
pub clip_low : (q : ℕ) (b : ℤ) (r : Ext) (x : ℤ) → IsBelow (At b) r → x ≤ℤ (pos q *ℤ b) → clip q (At b) r x ≡ pos q *ℤ b
clip_low q b MinusInf x below most = omega (arith, ints, clamps)
clip_low q b (At c) x below most = let m = scale_mono q b c (omega (arith, ints)) in omega (arith, ints, clamps)
clip_low q b PlusInf x below most = omega (arith, ints, clamps)

pub clip_high : (q : ℕ) (l : Ext) (d x : ℤ) → IsBelow l (At d) → (pos q *ℤ d) ≤ℤ x → clip q l (At d) x ≡ pos q *ℤ d
clip_high q MinusInf d x below least = omega (arith, ints, clamps)
clip_high q (At a) d x below least = let m = scale_mono q a d (omega (arith, ints)) in omega (arith, ints, clamps)
clip_high q PlusInf d x below least = omega (arith, ints, clamps)

-- ---- scaling

raised-scale : (q : ℕ) (e : Ext) (x : ℤ) → raised q e (pos q *ℤ x) ≡ pos q *ℤ raised 1 e x
raised-scale q MinusInf x = refl
raised-scale q (At a) x = int_max-scale q a x ∙ ap (λ z. pos q *ℤ int_max z x) (sym (one_times a))
raised-scale q PlusInf x = refl

lowered-scale : (q : ℕ) (e : Ext) (x : ℤ) → lowered q e (pos q *ℤ x) ≡ pos q *ℤ lowered 1 e x
lowered-scale q MinusInf x = refl
lowered-scale q (At b) x = int_min-scale q b x ∙ ap (λ z. pos q *ℤ int_min z x) (sym (one_times b))
lowered-scale q PlusInf x = refl

pub clip-scale : (q : ℕ) (l r : Ext) (x : ℤ) → clip q l r (pos q *ℤ x) ≡ pos q *ℤ clip 1 l r x
clip-scale q l r x = ap (lowered q r) (raised-scale q l x) ∙ lowered-scale q r (raised 1 l x)
