-- The price of a step by the slopes at the flow of its arc.
use Rattle.std.proofs.Common.{◌≡◌, ℤ, pos, ◌+ℤ◌, ◌-ℤ◌, neg_ℤ, ◌≤ℤ◌, Bool, true, false, Option, List, sym, subst, arith}
use Rattle.std.proofs.lemmas.Int.{ints}
use Rattle.theory.specs.declared.ext.Ext.{Ext}
use Rattle.theory.specs.declared.ext.Ext.TheVariants.{MinusInf, At, PlusInf}
use Rattle.theory.specs.CurveList.{IsCurveList}
use Rattle.theory.specs.Readings.{IsUnder, IsOver, IsSlopes}
use Rattle.theory.specs.Limits.{AreWithin, number_most}
use Rattle.mono_curve.proofs.ReadingBounds.{slopes-within}
use Rattle.kilter_solver.specs.Along.{IsPrice, price_up, price_down}
use Rattle.kilter_solver.proofs.NextFlow.{next_flow, flow_before, pair-same}

over_less : (e : Ext) (v w : ℤ) → w ≤ℤ v → IsOver e v → IsOver e w
over_less MinusInf v w h over = over
over_less (At b) v w h over = omega (arith, ints)
over_less PlusInf v w h over = tt

under_more : (e : Ext) (v w : ℤ) → v ≤ℤ w → IsUnder e v → IsUnder e w
under_more MinusInf v w h under = tt
under_more (At a) v w h under = omega (arith, ints)
under_more PlusInf v w h under = under

module _ (items : List Ext) (list : IsCurveList items) (within : AreWithin number_most items) (x : ℤ) where
  pub price_up-is : (low high : Ext) → IsSlopes items x low high → IsPrice items true x (price_up high)
  price_up-is low MinusInf slopes = record { beyond = λ v w on h. absurd ((slopes.pairs v).0 on).1 }
  price_up-is low PlusInf slopes = record { beyond = λ v w on h. (slopes.pairs w).1 (under_more low v w h ((slopes.pairs v).0 on).0, tt) }
  price_up-is low (At b) slopes = record {
    upto = λ v w on above under. (slopes.pairs w).1 (under_more low v w above ((slopes.pairs v).0 on).0, under);
    most = λ v on. ((slopes.pairs v).0 on).1;
    next = λ v on. (
        let ends = (slopes.pairs v).0 on in
        next_flow items x b list
        ((slopes.pairs b).1 (under_more low v b ends.1 ends.0, omega (arith, ints)))
        (λ over. let order = ((slopes.pairs (b +ℤ pos 1)).0 over).1 in absurd (omega (arith, ints))));
    small = (slopes-within number_most items x low (At b) list within slopes).high;
  }

  pub price_down-is : (low high : Ext) → IsSlopes items x low high → IsPrice items false x (price_down low)
  price_down-is PlusInf high slopes = record { beyond = λ v w on h. absurd ((slopes.pairs (neg_ℤ v)).0 on).0 }
  price_down-is MinusInf high slopes = record {
    beyond = λ v w on h. (slopes.pairs (neg_ℤ w)).1 (tt, over_less high (neg_ℤ v) (neg_ℤ w) (omega (arith, ints)) ((slopes.pairs (neg_ℤ v)).0 on).1);
  }
  price_down-is (At a) high slopes = record {
    upto = λ v w on above under. (
        let ends = (slopes.pairs (neg_ℤ v)).0 on in
        (slopes.pairs (neg_ℤ w)).1 (omega (arith, ints), over_less high (neg_ℤ v) (neg_ℤ w) (omega (arith, ints)) ends.1));
    most = λ v on. (let order = ((slopes.pairs (neg_ℤ v)).0 on).0 in omega (arith, ints));
    next = λ v on. (
        let ends = (slopes.pairs (neg_ℤ v)).0 on in
        pair-same items (x -ℤ pos 1) (x +ℤ neg_ℤ (pos 1)) a (neg_ℤ (neg_ℤ a))
        (flow_before items x a list
        ((slopes.pairs a).1 (omega (arith, ints), over_less high (neg_ℤ v) a ends.0 ends.1))
        (λ over. let order = ((slopes.pairs (a -ℤ pos 1)).0 over).0 in absurd (omega (arith, ints))))
        (omega (arith, ints)) (omega (arith, ints)));
    small = (let low = (slopes-within number_most items x (At a) high list within slopes).low in (omega (arith, ints, low.1), omega (arith, ints, low.0)));
  }

  pub price-forward : (forward : Bool) (y : ℤ) (low high : Ext) (price : Option ℤ) → forward ≡ true → y ≡ x → IsSlopes items y low high
      → price ≡ price_up high → IsPrice items forward x price
  price-forward forward y low high price is_forward same slopes is =
      subst (λ (f : Bool). IsPrice items f x price) (sym is_forward)
      (subst (λ (p : Option ℤ). IsPrice items true x p) (sym is)
      (price_up-is low high (subst (λ (z : ℤ). IsSlopes items z low high) same slopes)))

  pub price-backward : (forward : Bool) (y : ℤ) (low high : Ext) (price : Option ℤ) → forward ≡ false → y ≡ x → IsSlopes items y low high
      → price ≡ price_down low → IsPrice items forward x price
  price-backward forward y low high price is_backward same slopes is =
      subst (λ (f : Bool). IsPrice items f x price) (sym is_backward)
      (subst (λ (p : Option ℤ). IsPrice items false x p) (sym is)
      (price_down-is low high (subst (λ (z : ℤ). IsSlopes items z low high) same slopes)))
