-- Pairs of the curve. Each tension of the span has a flow, which is a listed point: the point before the first slope
-- that is not below the tension, else the last point. Each flow of the domain has a tension, which is a slope: that of
-- the first piece that doesn't end before the flow.
use Rattle.std.proofs.Common.{ℕ, true, false, ℤ, pos, ◌≤ℤ◌, ◌<ℤ◌, List, [], ◌∷◌, ◌≡◌, arith}
use Rattle.std.specs.Prelude.{◌*ℤ◌, if◌then◌else◌}
use Rattle.std.proofs.lemmas.Int.{ints, by_lt_z}
use Rattle.theory.specs.declared.ext.Ext.{Ext}
use Rattle.theory.specs.declared.ext.Ext.TheVariants.{MinusInf, At, PlusInf}
use Rattle.theory.specs.Ends.{is_finite, IsBelow, IsAtLeast, IsAtMost, IsBefore}
use Rattle.theory.specs.CurveList.{pieces, first, last, before_last}
use Rattle.theory.specs.Domain.{InDomain}
use Rattle.theory.specs.Span.{InSpan}
use Rattle.theory.specs.Sums.{Each}
use Rattle.theory.specs.ConjugateCost.{with_finite, finite_points, or_one, listed_points}
use Rattle.theory.specs.OnCurve.{IsOnCurve, FitsPiece}
use Rattle.theory.specs.CurveLaws.{TensionOfFlowLaw, FlowOfTensionLaw}
use Rattle.theory.proofs.Rings.{scale_mono}
use Rattle.theory.proofs.Sums.{IsAmong, here, later}
use Rattle.theory.proofs.Shape.{Rest, ends, goes_on, Shape, single, long, shape_by_place}

-- ---- the order of ends

pub least_before : (q : ℕ) (l m : Ext) (x : ℤ) → IsBelow l m → ¬ (IsBefore q m x) → IsAtLeast q l x
least_before q MinusInf m x below not_before = tt
least_before q (At a) MinusInf x below not_before = absurd (not_before tt)
least_before q (At a) (At b) x below not_before =
    let m = scale_mono q a b (omega (arith, ints)) in
    by_lt_z x (pos q *ℤ b) (λ before. absurd (not_before before)) (λ after. omega (arith, ints))
least_before q (At a) PlusInf x below not_before = absurd (not_before tt)
least_before q PlusInf m x below not_before = tt

pub most_after : (q : ℕ) (a : ℤ) (m : Ext) (x : ℤ) → IsBelow (At a) m → x ≤ℤ (pos q *ℤ a) → IsAtMost q m x
most_after q a MinusInf x below most = tt
most_after q a (At b) x below most = let m = scale_mono q a b (omega (arith, ints)) in omega (arith, ints)
most_after q a PlusInf x below most = tt

before_after : (q : ℕ) (a : ℤ) (m : Ext) (x : ℤ) → IsBelow (At a) m → x <ℤ (pos q *ℤ a) → IsBefore q m x
before_after q a MinusInf x below before = tt
before_after q a (At b) x below before = let m = scale_mono q a b (omega (arith, ints)) in omega (arith, ints)
before_after q a PlusInf x below before = tt

-- what is at most one point of the list is at most the last
pub most_last : (q : ℕ) (x : ℤ) {s : ℤ} {m : Ext} {rest : List Ext} → Rest s m rest → IsAtMost q m x → IsAtMost q (last (m ∷ rest)) x
most_last q x ends most = most
most_last q x (goes_on {b = b} {r = r} rises next more) most = most_last q x more (most_after q b r x next most)

-- ---- the pieces from a point on, at a flow that is not past it and a tension that is not above the slope before it
pub later_fits : (q : ℕ) (x w : ℤ) {s : ℤ} {m : Ext} {rest : List Ext} → Rest s m rest → IsAtMost q m x
    → w ≤ℤ (pos q *ℤ s) → Each (FitsPiece q x w) (pieces (m ∷ rest))
later_fits q x w ends most flat = tt
later_fits q x w (goes_on {s = s} {t = t} {b = b} {r = r} rises next more) most flat =
    let steeper = scale_mono q s t (omega (arith, ints)) in (
      record { begins_below = λ past. absurd (omega (arith, ints)); ends_above = λ before. omega (arith, ints) },
      later_fits q x w more (most_after q b r x next most) (omega (arith, ints)),
    )

-- ---- the flow of a tension

among_with : {b : ℤ} (e : Ext) (points : List ℤ) → IsAmong b points → IsAmong b (with_finite e points)
among_with MinusInf points among = among
among_with (At a) points among = later among
among_with PlusInf points among = among

among_or : {b : ℤ} {points : List ℤ} (x : ℤ) → IsAmong b points → IsAmong b (or_one points x)
among_or x here = here
among_or x (later among) = later among

among_first : (b : ℤ) (rest : List Ext) → IsAmong b (finite_points (At b ∷ rest))
among_first b [] = here
among_first b (s ∷ rest) = here

-- a point of the list from its second point on, where it is the flow of w
record Turn (q : ℕ) (w : ℤ) (items : List Ext) : Type 0 where
  point : ℤ
  listed : IsAmong point (finite_points items)
  not_before : ¬ (IsBefore q (first items) (pos q *ℤ point))
  most : IsAtMost q (last items) (pos q *ℤ point)
  fits : Each (FitsPiece q (pos q *ℤ point) w) (pieces items)

-- the end of the span, by the list from a slope on
abbrev pub high_from : Ext → List Ext → Ext
high_from s points = if is_finite (last points) then PlusInf else before_last (s ∷ points)

turn_rest : (q : ℕ) (w : ℤ) {s : ℤ} {m : Ext} {rest : List Ext} → Rest s m rest → (pos q *ℤ s) <ℤ w
    → IsAtMost q (high_from (At s) (m ∷ rest)) w → Turn q w (m ∷ rest)
turn_rest q w (ends {m = MinusInf}) steep high = absurd (omega (arith, ints))
turn_rest q w (ends {m = At b}) steep high =
    record { point = b; listed = here; not_before = λ before. omega (arith, ints); most = omega (arith, ints); fits = tt }
turn_rest q w (ends {m = PlusInf}) steep high = absurd (omega (arith, ints))
turn_rest q w (goes_on {s = s} {t = t} {b = b} {r = r} {rest = rest} rises next more) steep high =
    by_lt_z (pos q *ℤ t) w (λ above. behind (turn_rest q w more above high) (omega (arith, ints))) at_b
  where
    behind : Turn q w (r ∷ rest) → (pos q *ℤ t) ≤ℤ w → Turn q w (At b ∷ At t ∷ r ∷ rest)
    behind turn flat =
        record {
          point = turn.point;
          listed = later turn.listed;
          not_before = λ before. turn.not_before (before_after q b r (pos q *ℤ turn.point) next before);
          most = turn.most;
          fits = (record { begins_below = λ past. flat; ends_above = λ before. absurd (turn.not_before before) }, turn.fits);
        }

    at_b : w ≤ℤ (pos q *ℤ t) → Turn q w (At b ∷ At t ∷ r ∷ rest)
    at_b flat =
        let next_most = most_after q b r (pos q *ℤ b) next (omega (arith, ints)) in
        record {
          point = b;
          listed = here;
          not_before = λ before. omega (arith, ints);
          most = most_last q (pos q *ℤ b) more next_most;
          fits = (record { begins_below = λ past. absurd (omega (arith, ints)); ends_above = λ before. flat }, later_fits q (pos q *ℤ b) w more next_most flat);
        }

pub record FlowOf (q : ℕ) (items : List Ext) (w : ℤ) : Type 0 where
  pub point : ℤ
  pub listed : IsAmong point (listed_points items)
  pub on_curve : IsOnCurve q items (pos q *ℤ point) w

after_turn : (q : ℕ) (w : ℤ) {l m : Ext} {s : ℤ} {rest : List Ext} → IsBelow l m → (pos q *ℤ s) <ℤ w
    → Turn q w (m ∷ rest) → FlowOf q (l ∷ At s ∷ m ∷ rest) w
after_turn q w {l = l} {m = m} {rest = rest} below steep turn =
    record {
      point = turn.point;
      listed = among_or _ (among_with l (finite_points (m ∷ rest)) turn.listed);
      on_curve =
          record {
            in_domain = record { least = least_before q l m (pos q *ℤ turn.point) below turn.not_before; most = turn.most };
            on_pieces = (record { begins_below = λ past. omega (arith, ints); ends_above = λ before. absurd (turn.not_before before) }, turn.fits);
          };
    }

at_first : (q : ℕ) (w : ℤ) (l m : Ext) (s : ℤ) (rest : List Ext) → IsBelow l m → Rest s m rest → w ≤ℤ (pos q *ℤ s)
    → InSpan q (l ∷ At s ∷ m ∷ rest) w → FlowOf q (l ∷ At s ∷ m ∷ rest) w
at_first q w (At a) m s rest below more flat span =
    let next_most = most_after q a m (pos q *ℤ a) below (omega (arith, ints)) in
    record {
      point = a;
      listed = here;
      on_curve =
          record {
            in_domain = record { least = omega (arith, ints); most = most_last q (pos q *ℤ a) more next_most };
            on_pieces = (record { begins_below = λ past. absurd (omega (arith, ints)); ends_above = λ before. flat }, later_fits q (pos q *ℤ a) w more next_most flat);
          };
    }
at_first q w MinusInf (At b) s rest below more flat span =
    record {
      point = b;
      listed = among_or _ (among_first b rest);
      on_curve =
          record {
            in_domain = record { least = tt; most = most_last q (pos q *ℤ b) more (omega (arith, ints)) };
            on_pieces = (record { begins_below = λ past. span.least; ends_above = λ before. flat }, later_fits q (pos q *ℤ b) w more (omega (arith, ints)) flat);
          };
    }
at_first q w MinusInf PlusInf s _ below ends flat span =
    record {
      point = pos 0;
      listed = here;
      on_curve =
          record {
            in_domain = record { least = tt; most = tt };
            on_pieces = (record { begins_below = λ past. span.least; ends_above = λ before. flat }, tt);
          };
    }
at_first q w MinusInf MinusInf s rest below more flat span = let h : false ≡ true = below in cc
at_first q w PlusInf m s rest below more flat span = let h : false ≡ true = below in cc

-- each tension of the span has its flow at a listed point
pub flow_of : (q : ℕ) (w : ℤ) {items : List Ext} → Shape items → InSpan q items w → FlowOf q items w
flow_of q w (single {p = p}) span =
    record {
      point = p;
      listed = here;
      on_curve = record { in_domain = record { least = omega (arith, ints); most = omega (arith, ints) }; on_pieces = tt };
    }
flow_of q w (long {l = l} {m = m} {s = s} {rest = rest} below more) span =
    by_lt_z (pos q *ℤ s) w (λ steep. after_turn q w below steep (turn_rest q w more steep span.most)) (λ flat. at_first q w l m s rest below more flat span)

pub flow_of_tension : FlowOfTensionLaw
flow_of_tension items v list span = let flow = flow_of 1 v (shape_by_place items list) span in (pos 1 *ℤ flow.point, flow.on_curve)

-- ---- the tension of a flow

pub record TensionOf (q : ℕ) (x : ℤ) (l : Ext) (s : ℤ) (points : List Ext) : Type 0 where
  pub slope : ℤ
  pub steep : s ≤ℤ slope
  pub fits : Each (FitsPiece q x (pos q *ℤ slope)) (pieces (l ∷ At s ∷ points))

tension_from : (q : ℕ) (x : ℤ) (l : Ext) {s : ℤ} {m : Ext} {rest : List Ext} → Rest s m rest → TensionOf q x l s (m ∷ rest)
tension_from q x l (ends {s = s}) =
    record {
      slope = s;
      steep = omega (arith, ints);
      fits = (record { begins_below = λ past. omega (arith, ints); ends_above = λ before. omega (arith, ints) }, tt);
    }
tension_from q x l (goes_on {s = s} {t = t} {b = b} {r = r} {rest = rest} rises next more) =
    by_lt_z (pos q *ℤ b) x (λ past. behind past (tension_from q x (At b) more)) at_s
  where
    behind : (pos q *ℤ b) <ℤ x → TensionOf q x (At b) t (r ∷ rest) → TensionOf q x l s (At b ∷ At t ∷ r ∷ rest)
    behind past tension =
        let steeper = scale_mono q s tension.slope (omega (arith, ints)) in
        record {
          slope = tension.slope;
          steep = omega (arith, ints);
          fits = (record { begins_below = λ begun. steeper; ends_above = λ before. absurd (omega (arith, ints)) }, tension.fits);
        }

    at_s : x ≤ℤ (pos q *ℤ b) → TensionOf q x l s (At b ∷ At t ∷ r ∷ rest)
    at_s most =
        record {
          slope = s;
          steep = omega (arith, ints);
          fits = (
            record { begins_below = λ past. omega (arith, ints); ends_above = λ before. omega (arith, ints) },
            later_fits q x (pos q *ℤ s) (goes_on rises next more) most (omega (arith, ints)),
          );
        }

-- each flow of the domain has a slope as its tension
pub tension_of : (q : ℕ) (x : ℤ) {items : List Ext} → Shape items → InDomain q items x → (s : ℤ) × IsOnCurve q items x (pos q *ℤ s)
tension_of q x single in_x = (pos 0, record { in_domain = in_x; on_pieces = tt })
tension_of q x (long {l = l} below more) in_x = let tension = tension_from q x l more in (tension.slope, record { in_domain = in_x; on_pieces = tension.fits })

pub tension_of_flow : TensionOfFlowLaw
tension_of_flow items x list in_x = let tension = tension_of 1 x (shape_by_place items list) in_x in (pos 1 *ℤ tension.0, tension.1)
