-- The slopes at a flow are those of the pieces on its two sides. On the left: where a piece begins below the flow and
-- doesn't end before it, its slope is a tension of the flow, and one less isn't; so the lower answer is just that slope.
-- At the first point every lesser tension of a flow's tension is one too, so there is no lower answer.
use Rattle.std.proofs.Common.{◌≡◌, ℕ, ◌+◌, ◌*◌, ◌/◌, ◌<◌, ◌≤◌, ℤ, pos, false, List, length, refl, sym, ap, ◌∙◌, inl, inr, arith}
use Rattle.std.specs.Prelude.{◌+ℤ◌, ◌-ℤ◌, ◌≤ℤ◌}
use Rattle.std.specs.Int.{int_min, int_max}
use Rattle.std.proofs.lemmas.Bool.{cases_lt}
use Rattle.std.proofs.lemmas.Int.{ints, clamps, by_lt_z}
use Rattle.theory.specs.declared.ext.Ext.{Ext}
use Rattle.theory.specs.declared.ext.Ext.TheVariants.{MinusInf, At, PlusInf}
use Rattle.theory.specs.Ends.{whole, is_below, IsBelow}
use Rattle.theory.specs.CurveList.{IsCurveList, item}
use Rattle.theory.specs.Domain.{InDomain}
use Rattle.theory.specs.Readings.{IsUnder, IsOver, IsSlopes}
use Rattle.theory.proofs.Ends.{below_asym}
use Rattle.theory.proofs.Pairs.{tension_of_flow}
use Rattle.theory.proofs.Places.{first_at}
use Rattle.theory.specs.ReadingLaws.{SlopesOfPiecesLaw}
use Rattle.mono_curve.proofs.Stairs.{finite_is, later_not_below, earlier_not_above}
use Rattle.mono_curve.proofs.ReadOff.{IsPair, past_below, before_above, least_not_above, most_not_below, first_finite, last_finite, slope_finite, pair_of_curve, curve_of_pair, later_point, earlier_point, clash, last_is, not_above_least, not_below_most}

pub not_below_self : (e : Ext) → is_below e e ≡ false
not_below_self MinusInf = refl
not_below_self (At a) = grind (arith, ints)
not_below_self PlusInf = refl

-- the slope of a piece that reaches from under the flow, or at it, to the flow or over it
pub slope_pairs : (items : List Ext) → IsCurveList items → (x : Ext) (k : ℕ) → k < length items / 2 → is_below x (item items (2 * k)) ≡ false → is_below (item items (2 * k + 2)) x ≡ false → IsPair items x (item items (2 * k + 1))
slope_pairs items list x k inside begun not_ended =
    let place : 2 * (k + 1) ≡ 2 * k + 2 = omega arith in
    let ending : is_below (item items (2 * (k + 1))) x ≡ false = rw place not_ended in
    record {
      not_under = earlier_point items list x 0 k (omega arith) (omega arith) begun;
      not_over = later_point items list x (k + 1) (length items / 2) (omega arith) (omega arith) ending;
      begins_below = λ j there below. elim (cases_lt k j) [
        | inl later ↦ absurd (clash below (later_point items list x (k + 1) j (omega arith) (omega arith) ending))
        | inr earlier ↦ earlier_not_above items list (item items (2 * k + 1)) 1 j k earlier (omega arith) (not_below_self (item items (2 * k + 1)))
      ];
      ends_above = λ j there above. elim (cases_lt j k) [
        | inl earlier ↦ (let next : 2 * (j + 1) ≡ 2 * j + 2 = omega arith in
            absurd (clash above (rw next at (earlier_point items list x (j + 1) k (omega arith) (omega arith) begun))))
        | inr later ↦ later_not_below items list (item items (2 * k + 1)) 1 k j later (omega arith) (not_below_self (item items (2 * k + 1)))
      ];
    }

least_is : (low : Ext) (s : ℤ) → IsUnder low s → (IsUnder low (s -ℤ pos 1) → ⊥) → low ≡ At s
least_is MinusInf s here less = absurd (less tt)
least_is (At a) s here less = ap At (by_lt_z a s (λ below. absurd (less (omega (arith, ints)))) (λ above. omega (arith, ints)))
least_is PlusInf s here less = absurd here

most_is : (high : Ext) (s : ℤ) → IsOver high s → (IsOver high (s +ℤ pos 1) → ⊥) → high ≡ At s
most_is MinusInf s here more = absurd here
most_is (At b) s here more = ap At (by_lt_z s b (λ above. absurd (more (omega (arith, ints)))) (λ below. omega (arith, ints)))
most_is PlusInf s here more = absurd (more tt)

over_less : (high : Ext) (s : ℤ) → IsOver high s → IsOver high (s -ℤ pos 1)
over_less MinusInf s here = here
over_less (At b) s here = omega (arith, ints)
over_less PlusInf s here = tt

under_more : (low : Ext) (s : ℤ) → IsUnder low s → IsUnder low (s +ℤ pos 1)
under_more MinusInf s here = tt
under_more (At a) s here = omega (arith, ints)
under_more PlusInf s here = here

less_below : (s : ℤ) → IsBelow (At (s -ℤ pos 1)) (At s)
less_below s = grind (arith, ints)

more_above : (s : ℤ) → IsBelow (At s) (At (s +ℤ pos 1))
more_above s = grind (arith, ints)

module _ (items : List Ext) (list : IsCurveList items) (x : ℤ) (low high : Ext) (slopes : IsSlopes items x low high) where
  slope_on_left : (k : ℕ) (s : ℤ) → item items (2 * k + 1) ≡ At s → k < length items / 2 → IsBelow (item items (2 * k)) (At x) → is_below (item items (2 * k + 2)) (At x) ≡ false → low ≡ At s
  slope_on_left k s is inside below not_ended =
      let pair = slope_pairs items list (At x) k inside (below_asym (item items (2 * k)) (At x) below) not_ended in
      let here = (slopes.pairs s).0 (curve_of_pair items x s list (rw is at pair)) in
      least_is low s here.0
      (λ less. let lower = pair_of_curve items x (s -ℤ pos 1) list ((slopes.pairs (s -ℤ pos 1)).1 (less, over_less high s here.1)) in
      clash (less_below s) (rw is at (lower.begins_below k inside below)))

  slope_on_right : (k : ℕ) (s : ℤ) → item items (2 * k + 1) ≡ At s → k < length items / 2 → is_below (At x) (item items (2 * k)) ≡ false → IsBelow (At x) (item items (2 * k + 2)) → high ≡ At s
  slope_on_right k s is inside begun above =
      let pair = slope_pairs items list (At x) k inside begun (below_asym (At x) (item items (2 * k + 2)) above) in
      let here = (slopes.pairs s).0 (curve_of_pair items x s list (rw is at pair)) in
      most_is high s here.1
      (λ more. let higher = pair_of_curve items x (s +ℤ pos 1) list ((slopes.pairs (s +ℤ pos 1)).1 (under_more low s here.0, more)) in
      clash (more_above s) (rw is at (higher.ends_above k inside above)))

-- ---- the two ends of the domain

no_least : (low : Ext) (v : ℤ) → ((w : ℤ) → w ≤ℤ v → IsUnder low w) → low ≡ MinusInf
no_least MinusInf v under = refl
no_least (At a) v under = let h = under (int_min v (a -ℤ pos 1)) (omega (arith, ints, clamps)) in absurd (omega (arith, ints, clamps))
no_least PlusInf v under = absurd (under v (omega (arith, ints)))

no_most : (high : Ext) (v : ℤ) → ((w : ℤ) → v ≤ℤ w → IsOver high w) → high ≡ PlusInf
no_most MinusInf v over = absurd (over v (omega (arith, ints)))
no_most (At b) v over = let h = over (int_max v (b +ℤ pos 1)) (omega (arith, ints, clamps)) in absurd (omega (arith, ints, clamps))
no_most PlusInf v over = refl

steep_for_less : (s : Ext) (v w : ℤ) → w ≤ℤ v → is_below s (At v) ≡ false → is_below s (At w) ≡ false
steep_for_less MinusInf v w less h = cc
steep_for_less (At a) v w less h = grind (arith, ints)
steep_for_less PlusInf v w less h = refl

flat_for_more : (s : Ext) (v w : ℤ) → v ≤ℤ w → is_below (At v) s ≡ false → is_below (At w) s ≡ false
flat_for_more MinusInf v w more h = refl
flat_for_more (At a) v w more h = grind (arith, ints)
flat_for_more PlusInf v w more h = cc

module _ (items : List Ext) (list : IsCurveList items) (x : ℤ) where
  above_first : item items 0 ≡ At x → (k : ℕ) → k ≤ length items / 2 → is_below (item items (2 * k)) (At x) ≡ false
  above_first at_first k inside = later_point items list (At x) 0 k (omega arith) inside (rw at_first (not_below_self (At x)))

  under_last : item items (2 * (length items / 2)) ≡ At x → (k : ℕ) → k ≤ length items / 2 → is_below (At x) (item items (2 * k)) ≡ false
  under_last at_last k inside = earlier_point items list (At x) k (length items / 2) inside (omega arith) (rw at_last (not_below_self (At x)))

  first_pair : (v w : ℤ) → item items 0 ≡ At x → w ≤ℤ v → IsPair items (At x) (At v) → IsPair items (At x) (At w)
  first_pair v w at_first less pair =
      record {
        not_under = pair.not_under;
        not_over = pair.not_over;
        begins_below = λ k inside below. absurd (clash below (above_first at_first k (omega arith)));
        ends_above = λ k inside above. steep_for_less (item items (2 * k + 1)) v w less (pair.ends_above k inside above);
      }

  last_pair : (v w : ℤ) → item items (2 * (length items / 2)) ≡ At x → v ≤ℤ w → IsPair items (At x) (At v) → IsPair items (At x) (At w)
  last_pair v w at_last more pair =
      record {
        not_under = pair.not_under;
        not_over = pair.not_over;
        begins_below = λ k inside below. flat_for_more (item items (2 * k + 1)) v w more (pair.begins_below k inside below);
        ends_above = λ k inside above. (let place : 2 * (k + 1) ≡ 2 * k + 2 = omega arith in
            absurd (clash above (rw place at (under_last at_last (k + 1) (omega arith)))));
      }

  inside_by_ends : is_below (At x) (item items 0) ≡ false → is_below (item items (2 * (length items / 2))) (At x) ≡ false → InDomain 1 items x
  inside_by_ends not_under not_over =
      record {
        least = rw (← first_at items) (not_above_least (item items 0) x not_under);
        most = rw (← last_is items list) (not_below_most (item items (2 * (length items / 2))) x not_over);
      }

pub slopes_of_pieces : SlopesOfPiecesLaw
slopes_of_pieces items x low high list slopes =
    record {
      left = λ k inside past ending. slope_left k inside (past_below (item items (2 * k)) x (first_finite items list k inside) past) (most_not_below (item items (2 * k + 2)) x (last_finite items list k inside) ending);
      at_first = λ here. (let at_first : item items 0 ≡ At x = first_at items ∙ here in
          let inside = inside_by_ends items list x (rw at_first (not_below_self (At x))) (above_first items list x at_first (length items / 2) (omega arith)) in
          let tension = tension_of_flow items x list inside in
          no_least low tension.0
          (λ w less. ((slopes.pairs w).0 (curve_of_pair items x w list (first_pair items list x tension.0 w at_first less (pair_of_curve items x tension.0 list tension.1)))).0));
      right = λ k inside begun before. slope_right k inside (least_not_above (item items (2 * k)) x (first_finite items list k inside) begun) (before_above (item items (2 * k + 2)) x (last_finite items list k inside) before);
      at_last = λ here. (let at_last : item items (2 * (length items / 2)) ≡ At x = last_is items list ∙ here in
          let inside = inside_by_ends items list x (under_last items list x at_last 0 (omega arith)) (rw at_last (not_below_self (At x))) in
          let tension = tension_of_flow items x list inside in
          no_most high tension.0
          (λ w more. ((slopes.pairs w).0 (curve_of_pair items x w list (last_pair items list x tension.0 w at_last more (pair_of_curve items x tension.0 list tension.1)))).1));
    }
  where
    slope_left : (k : ℕ) → k < length items / 2 → IsBelow (item items (2 * k)) (At x) → is_below (item items (2 * k + 2)) (At x) ≡ false → low ≡ item items (2 * k + 1)
    slope_left k inside below not_ended =
        let is = finite_is (item items (2 * k + 1)) (slope_finite items list k inside) in
        slope_on_left items list x low high slopes k (whole (item items (2 * k + 1))) is inside below not_ended ∙ sym is

    slope_right : (k : ℕ) → k < length items / 2 → is_below (At x) (item items (2 * k)) ≡ false → IsBelow (At x) (item items (2 * k + 2)) → high ≡ item items (2 * k + 1)
    slope_right k inside begun above =
        let is = finite_is (item items (2 * k + 1)) (slope_finite items list k inside) in
        slope_on_right items list x low high slopes k (whole (item items (2 * k + 1))) is inside begun above ∙ sym is
