-- The finite answers of a reading lie within the limit of the list's numbers. Were the slope on the left of a flow beyond
-- all slopes of the list, the next tension below it would fit every piece too, and so be a pair with the flow; but it is
-- not between the two slopes. In the same way the slope on the right. A range is the slopes of the conjugate.
use Rattle.std.proofs.Common.{◌≡◌, ℕ, ◌+◌, ◌-◌, ◌*◌, ℤ, pos, neg_ℤ, ◌+ℤ◌, ◌≤ℤ◌, ◌<ℤ◌, Bool, true, false, List, length, sym, ◌∙◌, refl, arith}
use Rattle.std.specs.Prelude.{◌-ℤ◌}
use Rattle.std.proofs.lemmas.Int.{ints, by_lt_z}
use Rattle.theory.specs.declared.ext.Ext.{Ext}
use Rattle.theory.specs.declared.ext.Ext.TheVariants.{MinusInf, At, PlusInf}
use Rattle.theory.specs.Sums.{Each}
use Rattle.theory.specs.Ends.{whole, is_below}
use Rattle.theory.specs.CurveList.{IsCurveList, Piece, pieces, first, last}
use Rattle.theory.specs.Span.{InSpan, span_low, span_high}
use Rattle.theory.specs.OnCurve.{FitsPiece, IsOnCurve}
use Rattle.theory.specs.Views.{conjugate_items}
use Rattle.theory.specs.Readings.{IsUnder, IsOver, AreBoth, IsSlopes, IsRange}
use Rattle.theory.specs.Limits.{AreWithin, IsWithin}
use Rattle.theory.proofs.Sums.{Each-zip}
use Rattle.theory.proofs.Places.{first_at, last_at, each_piece}
use Rattle.theory.proofs.Bounds.{item_within}
use Rattle.theory.proofs.Pairs.{tension_of_flow, flow_of_tension}
use Rattle.theory.proofs.ConjugateList.{conjugate-is_list, conjugate-pair}
use Rattle.mono_curve.proofs.ReadOff.{not_above_least, not_below_most}
use Rattle.theory.proofs.ViewBounds.{within_for}
use Rattle.theory.proofs.ConjugateReadings.{pair_from_conjugate, slopes-conjugate}

-- ---- a tension beyond all slopes, and others no nearer to them

fits_above : (n : ℕ) (x v w : ℤ) (k : Piece) → pos n <ℤ v → pos n ≤ℤ w → IsWithin n k.slope → FitsPiece 1 x v k → FitsPiece 1 x w k
fits_above n x v w k above near small fits =
    let low = small.0 in
    let high = small.1 in
    record {
      begins_below = λ past. omega (arith, ints);
      ends_above = λ before. (let flat = fits.ends_above before in absurd (omega (arith, ints)));
    }

fits_under : (n : ℕ) (x v w : ℤ) (k : Piece) → v <ℤ neg_ℤ (pos n) → w ≤ℤ neg_ℤ (pos n) → IsWithin n k.slope → FitsPiece 1 x v k → FitsPiece 1 x w k
fits_under n x v w k under near small fits =
    let low = small.0 in
    let high = small.1 in
    record {
      begins_below = λ past. (let steep = fits.begins_below past in absurd (omega (arith, ints)));
      ends_above = λ before. omega (arith, ints);
    }

module _ (n : ℕ) (items : List Ext) (list : IsCurveList items) (within : AreWithin n items) where
  small_slopes : Each (λ k. IsWithin n k.slope) (pieces items)
  small_slopes = each_piece (λ k. IsWithin n k.slope) items list (λ k h. item_within n items within (2 * k + 1))

  on_above : (x v w : ℤ) → pos n <ℤ v → pos n ≤ℤ w → IsOnCurve 1 items x v → IsOnCurve 1 items x w
  on_above x v w above near on =
      record {
        in_domain = on.in_domain;
        on_pieces = Each-zip (λ k. IsWithin n k.slope) (FitsPiece 1 x v) (FitsPiece 1 x w) (pieces items) (λ k. fits_above n x v w k above near) small_slopes on.on_pieces;
      }

  on_under : (x v w : ℤ) → v <ℤ neg_ℤ (pos n) → w ≤ℤ neg_ℤ (pos n) → IsOnCurve 1 items x v → IsOnCurve 1 items x w
  on_under x v w under near on =
      record {
        in_domain = on.in_domain;
        on_pieces = Each-zip (λ k. IsWithin n k.slope) (FitsPiece 1 x v) (FitsPiece 1 x w) (pieces items) (λ k. fits_under n x v w k under near) small_slopes on.on_pieces;
      }

-- each tension of the span has a flow within the limit: the range at it is the slopes of the conjugate, where a flow
-- beyond the limit can be drawn back to it
pub record SmallFlow (n : ℕ) (items : List Ext) (v : ℤ) : Type 0 where
  pub flow : ℤ
  pub within : IsWithin n flow
  pub pair : IsOnCurve 1 items flow v

pub small_flow : (n : ℕ) (items : List Ext) (v : ℤ) → IsCurveList items → AreWithin n items → InSpan 1 items v → SmallFlow n items v
small_flow n items v list within inside =
    let some = flow_of_tension items v list inside in
    let z = some.0 in
    let turned = conjugate-pair 1 items z v list some.1 in
    let conj_list = (conjugate-is_list items list).is_list in
    let conj_within = within_for n items within in
    by_lt_z z (neg_ℤ (pos n))
    (λ beyond. drawn (neg_ℤ (pos n)) (omega (arith, ints), omega (arith, ints)) (on_under n (conjugate_items items) conj_list conj_within v z (neg_ℤ (pos n)) beyond (omega (arith, ints)) turned))
    (λ above. by_lt_z (pos n) z
    (λ beyond. drawn (pos n) (omega (arith, ints), omega (arith, ints)) (on_above n (conjugate_items items) conj_list conj_within v z (pos n) beyond (omega (arith, ints)) turned))
    (λ under. record { flow = z; within = (above, under); pair = some.1 }))
  where
    drawn : (x : ℤ) → IsWithin n x → IsOnCurve 1 (conjugate_items items) v x → SmallFlow n items v
    drawn x small pair = record { flow = x; within = small; pair = pair_from_conjugate items v x list pair }

-- ---- outside the domain both slopes are infinite, inside there is a tension between them

pub data Between (low high : Ext) : Type 0 where
  outside_below : AreBoth MinusInf low high → Between low high
  outside_above : AreBoth PlusInf low high → Between low high
  between : (v : ℤ) → IsUnder low v → IsOver high v → Between low high

slopes_between_for : (items : List Ext) (x : ℤ) (low high : Ext) (b d : Bool) → IsCurveList items → IsSlopes items x low high
    → is_below (At x) (first items) ≡ b → is_below (last items) (At x) ≡ d → Between low high
slopes_between_for items x low high true d list slopes e f = outside_below (slopes.below e)
slopes_between_for items x low high false true list slopes e f = outside_above (slopes.above f)
slopes_between_for items x low high false false list slopes e f =
    let tension = tension_of_flow items x list (record { least = not_above_least (first items) x e; most = not_below_most (last items) x f }) in
    let ends = (slopes.pairs tension.0).0 tension.1 in
    between tension.0 ends.0 ends.1

pub slopes_between : (items : List Ext) (x : ℤ) (low high : Ext) → IsCurveList items → IsSlopes items x low high → Between low high
slopes_between items x low high list slopes = slopes_between_for items x low high (is_below (At x) (first items)) (is_below (last items) (At x)) list slopes refl refl

over_lower : (e : Ext) (a v : ℤ) → a ≤ℤ v → IsOver e v → IsOver e a
over_lower MinusInf a v h over = over
over_lower (At b) a v h over = omega (arith, ints)
over_lower PlusInf a v h over = tt

under_higher : (e : Ext) (v b : ℤ) → v ≤ℤ b → IsUnder e v → IsUnder e b
under_higher MinusInf v b h under = tt
under_higher (At a) v b h under = omega (arith, ints)
under_higher PlusInf v b h under = under

module _ (n : ℕ) (items : List Ext) (list : IsCurveList items) (within : AreWithin n items) (x : ℤ) where
  low_at : (a : ℤ) (high : Ext) → IsSlopes items x (At a) high → Between (At a) high → IsWithin n a
  low_at a high slopes (outside_below both) = let clash : At a ≡ MinusInf = both.one in cc
  low_at a high slopes (outside_above both) = let clash : At a ≡ PlusInf = both.one in cc
  low_at a high slopes (between v under over) =
      let pair = (slopes.pairs a).1 (omega (arith, ints), over_lower high a v under over) in
      let lower : IsOnCurve 1 items x (a -ℤ pos 1) → ⊥ = (λ on. let order = ((slopes.pairs (a -ℤ pos 1)).0 on).0 in omega (arith, ints)) in (
        by_lt_z a (neg_ℤ (pos n)) (λ beyond. absurd (lower (on_under n items list within x a (a -ℤ pos 1) beyond (omega (arith, ints)) pair))) (λ inside. inside),
        by_lt_z (pos n) a (λ beyond. absurd (lower (on_above n items list within x a (a -ℤ pos 1) beyond (omega (arith, ints)) pair))) (λ inside. inside),
      )

  high_at : (low : Ext) (b : ℤ) → IsSlopes items x low (At b) → Between low (At b) → IsWithin n b
  high_at low b slopes (outside_below both) = let clash : At b ≡ MinusInf = both.other in cc
  high_at low b slopes (outside_above both) = let clash : At b ≡ PlusInf = both.other in cc
  high_at low b slopes (between v under over) =
      let pair = (slopes.pairs b).1 (under_higher low v b over under, omega (arith, ints)) in
      let higher : IsOnCurve 1 items x (b +ℤ pos 1) → ⊥ = (λ on. let order = ((slopes.pairs (b +ℤ pos 1)).0 on).1 in omega (arith, ints)) in (
        by_lt_z b (neg_ℤ (pos n)) (λ beyond. absurd (higher (on_under n items list within x b (b +ℤ pos 1) beyond (omega (arith, ints)) pair))) (λ inside. inside),
        by_lt_z (pos n) b (λ beyond. absurd (higher (on_above n items list within x b (b +ℤ pos 1) beyond (omega (arith, ints)) pair))) (λ inside. inside),
      )

  low_within : (low high : Ext) → IsSlopes items x low high → IsWithin n (whole low)
  low_within MinusInf high slopes = (omega (arith, ints), omega (arith, ints))
  low_within (At a) high slopes = low_at a high slopes (slopes_between items x (At a) high list slopes)
  low_within PlusInf high slopes = (omega (arith, ints), omega (arith, ints))

  high_within : (low high : Ext) → IsSlopes items x low high → IsWithin n (whole high)
  high_within low MinusInf slopes = (omega (arith, ints), omega (arith, ints))
  high_within low (At b) slopes = high_at low b slopes (slopes_between items x low (At b) list slopes)
  high_within low PlusInf slopes = (omega (arith, ints), omega (arith, ints))

-- ---- the answers of the readings

pub record AreEndsWithin (n : ℕ) (d e : Ext) : Type 0 where
  pub low : IsWithin n (whole d)
  pub high : IsWithin n (whole e)

pub domain-within : (n : ℕ) (items : List Ext) (low high : Ext) → IsCurveList items → AreWithin n items → low ≡ first items → high ≡ last items → AreEndsWithin n low high
domain-within n items low high list within d e =
    record {
      low = rw (d, ← first_at items) (item_within n items within 0);
      high = rw (e, ← last_at items (length items - 1) (omega (arith, list.odd))) (item_within n items within (length items - 1));
    }

pub span-within : (n : ℕ) (items : List Ext) (low high : Ext) → IsCurveList items → AreWithin n items → low ≡ span_low items → high ≡ span_high items → AreEndsWithin n low high
span-within n items low high list within d e =
    let ends = conjugate-is_list items list in
    domain-within n (conjugate_items items) low high ends.is_list (within_for n items within) (d ∙ sym ends.domain_low) (e ∙ sym ends.domain_high)

pub slopes-within : (n : ℕ) (items : List Ext) (x : ℤ) (low high : Ext) → IsCurveList items → AreWithin n items → IsSlopes items x low high → AreEndsWithin n low high
slopes-within n items x low high list within slopes =
    record { low = low_within n items list within x low high slopes; high = high_within n items list within x low high slopes }

pub range-within : (n : ℕ) (items : List Ext) (v : ℤ) (low high : Ext) → IsCurveList items → AreWithin n items → IsRange items v low high → AreEndsWithin n low high
range-within n items v low high list within range =
    slopes-within n (conjugate_items items) v low high (conjugate-is_list items list).is_list (within_for n items within) (slopes-conjugate items v low high list range)
