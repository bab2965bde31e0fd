-- The order of ends, and their negation.
use Rattle.std.proofs.Common.{◌≡◌, true, false, refl, sym, ap, arith}
use Rattle.std.proofs.lemmas.Int.{ints}
use Rattle.std.proofs.Math.IntN.{neg_ℤ-neg_ℤ}
use Rattle.theory.specs.declared.ext.Ext.{Ext}
use Rattle.theory.specs.declared.ext.Ext.TheVariants.{MinusInf, At, PlusInf}
use Rattle.theory.specs.Ends.{is_finite, IsBelow, is_below, negated}

pub below_trans : (c d e : Ext) → IsBelow c d → IsBelow d e → IsBelow c e
below_trans MinusInf MinusInf e g h = let f : false ≡ true = g in cc
below_trans MinusInf (At b) MinusInf g h = let f : false ≡ true = h in cc
below_trans MinusInf (At b) (At c) g h = refl
below_trans MinusInf (At b) PlusInf g h = refl
below_trans (At a) MinusInf e g h = let f : false ≡ true = g in cc
below_trans (At a) (At b) MinusInf g h = let f : false ≡ true = h in cc
below_trans (At a) (At b) (At c) g h = sym (omega (arith, ints))
below_trans (At a) (At b) PlusInf g h = refl
below_trans MinusInf PlusInf e g h = let f : false ≡ true = h in cc
below_trans (At a) PlusInf e g h = let f : false ≡ true = h in cc
below_trans PlusInf d e g h = let f : false ≡ true = g in cc

pub nothing_below : (e : Ext) → ¬ (IsBelow e MinusInf)
nothing_below MinusInf h = let f : false ≡ true = h in cc
nothing_below (At a) h = let f : false ≡ true = h in cc
nothing_below PlusInf h = let f : false ≡ true = h in cc

pub below_asym : (l r : Ext) → IsBelow l r → is_below r l ≡ false
below_asym MinusInf MinusInf h = refl
below_asym MinusInf (At b) h = refl
below_asym MinusInf PlusInf h = refl
below_asym (At a) MinusInf h = let f : false ≡ true = h in cc
below_asym (At a) (At b) h = sym (omega (arith, ints))
below_asym (At a) PlusInf h = refl
below_asym PlusInf r h = let f : false ≡ true = h in cc

pub negated-negated : (e : Ext) → negated (negated e) ≡ e
negated-negated MinusInf = refl
negated-negated (At a) = ap At (neg_ℤ-neg_ℤ a)
negated-negated PlusInf = refl

pub below-negated : (d e : Ext) → IsBelow d e → IsBelow (negated e) (negated d)
below-negated MinusInf MinusInf h = h
below-negated MinusInf (At b) h = refl
below-negated MinusInf PlusInf h = refl
below-negated (At a) MinusInf h = h
below-negated (At a) (At b) h = sym (omega (arith, ints))
below-negated (At a) PlusInf h = refl
below-negated PlusInf MinusInf h = let f : false ≡ true = h in cc
below-negated PlusInf (At b) h = h
below-negated PlusInf PlusInf h = h

pub finite-negated : (e : Ext) → is_finite (negated e) ≡ is_finite e
finite-negated MinusInf = refl
finite-negated (At a) = refl
finite-negated PlusInf = refl
