-- What the sum with one part in another's place says of the ends that the parts were read from.
use Rattle.std.proofs.Common.{◌≡◌, ℤ, pos, ◌+ℤ◌, ◌≤ℤ◌, None, Some, refl, arith}
use Rattle.std.specs.Prelude.{◌<ℤ◌}
use Rattle.std.proofs.lemmas.Int.{ints}
use Rattle.theory.specs.declared.ext.Ext.{Ext}
use Rattle.theory.specs.declared.ext.Ext.TheVariants.{MinusInf, At, PlusInf}
use Rattle.theory.specs.Ends.{IsFinite, whole}
use Rattle.net_incidence.specs.PartOf.{part_of}
use Rattle.warm_solve.specs.Part.{IsSumWith}

-- the sum that was found
pub record IsFound (sum : ℤ) (before now : Ext) (found : ℤ) : Type 0 where
  pub finite : IsFinite now
  pub moved : found +ℤ whole before ≡ sum +ℤ whole now
  pub negative : found <ℤ pos 0

pub found-is : (sum found : ℤ) (before now : Ext) → IsSumWith sum (part_of before) (part_of now) (Some found) → IsFound sum before now found
found-is sum found (At p) (At q) h =
    let is = h.0 in
    record { finite = refl; moved = omega (arith, ints); negative = h.1 }
found-is sum found (At p) MinusInf h = absurd h
found-is sum found (At p) PlusInf h = absurd h
found-is sum found MinusInf now h = absurd h
found-is sum found PlusInf now h = absurd h

pub none-is : (sum : ℤ) (before now : Ext) → IsSumWith sum (part_of before) (part_of now) None → IsFinite before → IsFinite now
    → whole before ≤ℤ (sum +ℤ whole now)
none-is sum (At p) (At q) h finite ends = omega (arith, ints)
none-is sum (At p) MinusInf h finite ends = cc
none-is sum (At p) PlusInf h finite ends = cc
none-is sum MinusInf now h finite ends = cc
none-is sum PlusInf now h finite ends = cc
