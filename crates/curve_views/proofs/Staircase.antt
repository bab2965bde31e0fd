-- Readings by one walk. A curve list is a staircase: points with slopes as thresholds, and slopes with points as thresholds,
-- where the slope before the first point is minus infinity and the one after the last is plus infinity. A reading walks up as
-- long as the thresholds are below the number that it asks for, and answers the value where it stops. That the upper answer
-- is the lower one at the next number holds since between two whole numbers there is none. A reading has one answer only: two
-- ranges that hold the same whole numbers, and one at least, have the same ends.
use Rattle.std.proofs.Common.{◌≡◌, ℕ, zero, suc, ◌+◌, ◌*◌, ◌/◌, ◌%◌, ◌<◌, ◌≤◌, ℤ, pos, ◌+ℤ◌, ◌≤ℤ◌, Bool, true, false, not, List, [], ◌∷◌, length, refl, sym, ap, ◌∙◌, arith, length-append}
use Rattle.std.specs.Prelude.{◌-ℤ◌, ◌++◌}
use Rattle.std.proofs.lemmas.Int.{ints}
use Rattle.std.proofs.Math.ListN.{get_or-append}
use Rattle.std.proofs.Math.Seq.{get_or-append_seam}
use Rattle.theory.specs.declared.ext.Ext.{Ext}
use Rattle.theory.specs.declared.ext.Ext.TheVariants.{MinusInf, At, PlusInf}
use Rattle.theory.specs.Ends.{is_below}
use Rattle.theory.specs.CurveList.{IsCurveList, item, first, last}
use Rattle.theory.specs.Views.{conjugate_items}
use Rattle.theory.specs.Readings.{IsUnder, IsOver, IsSlopes, IsRange}
use Rattle.theory.proofs.ConjugateList.{conjugate-is_list}
use Rattle.theory.proofs.ConjugateReadings.{slopes-conjugate}
use Rattle.theory.proofs.Pairs.{tension_of_flow}
use Rattle.mono_curve.specs.Halving.{IsTurn, IsSlopeBefore, count_from, is_item_below, is_item_up_to}
use Rattle.mono_curve.proofs.Stairs.{later_not_below}
use Rattle.mono_curve.proofs.ReadOff.{not_above_least, not_below_most, slopes_by_turns, range_by_turns}
use Rattle.curve_views.specs.LevelReadings.{walk, is_under, slope_left}

-- ---- where a walk stops

record Stop (pass : Ext → Bool) (items : List Ext) : Type 0 where
  place : ℕ
  within : place ≤ length items / 2
  before : (j : ℕ) → j < place → pass (item items (2 * j + 1)) ≡ true
  here : place < length items / 2 → pass (item items (2 * place + 1)) ≡ false
  value : walk pass items ≡ item items (2 * place)

stop_behind : (pass : Ext → Bool) (a t : Ext) (rest : List Ext) (b : Bool) → pass t ≡ b → Stop pass rest → Stop pass (a ∷ t ∷ rest)
stop_behind pass a t rest true e stop =
    record {
      place = suc stop.place;
      within = omega (arith, stop.within);
      before = earlier;
      here = λ h. (let there : 2 * suc stop.place + 1 ≡ suc (suc (2 * stop.place + 1)) = omega arith in rw there (stop.here (omega arith)));
      value = (let there : 2 * suc stop.place ≡ suc (suc (2 * stop.place)) = omega arith in rw (e, there) stop.value);
    }
  where
    earlier : (j : ℕ) → j < suc stop.place → pass (item (a ∷ t ∷ rest) (2 * j + 1)) ≡ true
    earlier zero h = e
    earlier (suc j) h = let there : 2 * suc j + 1 ≡ suc (suc (2 * j + 1)) = omega arith in rw there (stop.before j (omega arith))
stop_behind pass a t rest false e stop =
    record {
      place = 0;
      within = omega arith;
      before = λ j h. absurd (omega arith);
      here = λ h. e;
      value = rw e refl;
    }

stop_of : (pass : Ext → Bool) (items : List Ext) → length items % 2 ≡ 1 → Stop pass items
stop_of pass [] odd = absurd (omega (arith, odd))
stop_of pass (a ∷ []) odd =
    record { place = 0; within = omega arith; before = λ j h. absurd (omega arith); here = λ h. absurd (omega arith); value = refl }
stop_of pass (a ∷ t ∷ rest) odd = stop_behind pass a t rest (pass t) refl (stop_of pass rest (omega (arith, odd)))

-- ---- the next number

same_test : (b c : Bool) → (b ≡ true → c ≡ false) → (b ≡ false → c ≡ true) → not b ≡ c
same_test true c f g = sym (f refl)
same_test false c f g = sym (g refl)

-- not above a number is below the next
next_test : (v : ℤ) (t : Ext) → not (is_below (At v) t) ≡ is_below t (At (v +ℤ pos 1))
next_test v MinusInf = refl
next_test v (At a) =
    same_test (is_below (At v) (At a)) (is_below (At a) (At (v +ℤ pos 1))) (λ above. sym (omega (arith, ints))) (λ under. sym (omega (arith, ints)))
next_test v PlusInf = refl

-- ---- the range

module _ (items : List Ext) (list : IsCurveList items) (v : ℤ) where
  low_turn : (stop : Stop (is_under (At v)) items) → IsTurn (is_item_below items 1 (At v)) (count_from items 1) stop.place
  low_turn stop =
      record {
        within = omega (arith, stop.within);
        before = stop.before;
        after = λ j order inside. later_not_below items list (At v) 1 stop.place j order (omega arith) (stop.here (omega arith));
      }

  high_turn : (stop : Stop (is_under (At (v +ℤ pos 1))) items) → IsTurn (is_item_up_to items 1 (At v)) (count_from items 1) stop.place
  high_turn stop =
      record {
        within = omega (arith, stop.within);
        before = λ j h. next_test v (item items (2 * j + 1)) ∙ stop.before j h;
        after = λ j order inside. (next_test v (item items (2 * j + 1))
            ∙ later_not_below items list (At (v +ℤ pos 1)) 1 stop.place j order (omega arith) (stop.here (omega arith)));
      }

pub range_of_walk : (items : List Ext) → IsCurveList items → (v : ℤ)
    → IsRange items v (walk (is_under (At v)) items) (walk (is_under (At (v +ℤ pos 1))) items)
range_of_walk items list v =
    let low = stop_of (is_under (At v)) items list.odd in
    let high = stop_of (is_under (At (v +ℤ pos 1))) items list.odd in
    rw (low.value, high.value) (range_by_turns items v low.place high.place list (low_turn items list v low) (high_turn items list v high))

-- ---- the slopes

abbrev fenced : List Ext → List Ext
fenced items = MinusInf ∷ (items ++ PlusInf ∷ [])

fenced-inside : (items : List Ext) (i : ℕ) → i < length items → item (fenced items) (suc i) ≡ item items i
fenced-inside items i inside = get_or-append items (PlusInf ∷ []) MinusInf i inside

fenced-past : (items : List Ext) → item (fenced items) (suc (length items)) ≡ PlusInf
fenced-past items = get_or-append_seam items PlusInf [] MinusInf

fenced-length : (items : List Ext) → length (fenced items) ≡ suc (suc (length items))
fenced-length items = omega (arith, length-append {A = Ext})

-- the value of a walk is the slope before the point where it stopped
slope_at_stop : (items : List Ext) → length items % 2 ≡ 1 → (pass : Ext → Bool) (stop : Stop pass (fenced items))
    → IsSlopeBefore items stop.place (walk pass (fenced items))
slope_at_stop items odd pass stop =
    let long = fenced-length items in
    record {
      at_first = λ none. (stop.value ∙ ap (λ (i : ℕ). item (fenced items) (2 * i)) none);
      inside = λ j place within. (let there : 2 * stop.place ≡ suc (2 * j + 1) = omega arith in
          stop.value ∙ ap (item (fenced items)) there ∙ fenced-inside items (2 * j + 1) (omega arith));
      past_last = λ past. (let there : 2 * stop.place ≡ suc (length items) = omega (arith, stop.within) in
          stop.value ∙ ap (item (fenced items)) there ∙ fenced-past items);
    }

module _ (items : List Ext) (list : IsCurveList items) (x : ℤ) where
  -- a threshold of the fenced list is a point
  threshold : (j : ℕ) → j ≤ length items / 2 → item (fenced items) (2 * j + 1) ≡ item items (2 * j + 0)
  threshold j inside =
      let there : 2 * j + 1 ≡ suc (2 * j + 0) = omega arith in
      ap (item (fenced items)) there ∙ fenced-inside items (2 * j + 0) (omega (arith, list.odd))

  few : (stop : ℕ) → stop ≤ length (fenced items) / 2 → stop ≤ count_from items 0
  few stop within = omega (arith, list.odd, fenced-length items)

  left_turn : (stop : Stop (is_under (At x)) (fenced items)) → IsTurn (is_item_below items 0 (At x)) (count_from items 0) stop.place
  left_turn stop =
      record {
        within = few stop.place stop.within;
        before = λ j h. (let most = few stop.place stop.within in
            ap (λ (e : Ext). is_below e (At x)) (sym (threshold j (omega (arith, list.odd)))) ∙ stop.before j h);
        after = λ j order inside. (let long = fenced-length items in
            later_not_below items list (At x) 0 stop.place j order (omega (arith, list.odd))
            (ap (λ (e : Ext). is_below e (At x)) (sym (threshold stop.place (omega (arith, list.odd)))) ∙ stop.here (omega (arith, list.odd))));
      }

  right_turn : (stop : Stop (is_under (At (x +ℤ pos 1))) (fenced items)) → IsTurn (is_item_up_to items 0 (At x)) (count_from items 0) stop.place
  right_turn stop =
      record {
        within = few stop.place stop.within;
        before = λ j h. (let most = few stop.place stop.within in
            next_test x (item items (2 * j + 0))
            ∙ ap (λ (e : Ext). is_below e (At (x +ℤ pos 1))) (sym (threshold j (omega (arith, list.odd)))) ∙ stop.before j h);
        after = λ j order inside. (let long = fenced-length items in
            next_test x (item items (2 * j + 0))
            ∙ later_not_below items list (At (x +ℤ pos 1)) 0 stop.place j order (omega (arith, list.odd))
            (ap (λ (e : Ext). is_below e (At (x +ℤ pos 1))) (sym (threshold stop.place (omega (arith, list.odd)))) ∙ stop.here (omega (arith, list.odd))));
      }

pub slopes_of_walk : (items : List Ext) → IsCurveList items → (x : ℤ) → IsSlopes items x (slope_left items x) (slope_left items (x +ℤ pos 1))
slopes_of_walk items list x =
    let low = stop_of (is_under (At x)) (fenced items) (omega (arith, list.odd, fenced-length items)) in
    let high = stop_of (is_under (At (x +ℤ pos 1))) (fenced items) (omega (arith, list.odd, fenced-length items)) in
    slopes_by_turns items x low.place high.place (slope_left items x) (slope_left items (x +ℤ pos 1)) list
    (left_turn items list x low)
    (right_turn items list x high)
    (slope_at_stop items list.odd (is_under (At x)) low)
    (slope_at_stop items list.odd (is_under (At (x +ℤ pos 1))) high)

-- ---- one answer only

lower_is : (d e : Ext) (w : ℤ) → IsUnder d w → IsUnder e w → ((v : ℤ) → v ≤ℤ w → IsUnder d v → IsUnder e v)
    → ((v : ℤ) → v ≤ℤ w → IsUnder e v → IsUnder d v) → d ≡ e
lower_is MinusInf MinusInf w h k f g = refl
lower_is MinusInf (At b) w h k f g = let less = f (b -ℤ pos 1) (omega (arith, ints)) tt in absurd (omega (arith, ints))
lower_is MinusInf PlusInf w h k f g = absurd k
lower_is (At a) MinusInf w h k f g = let less = g (a -ℤ pos 1) (omega (arith, ints)) tt in absurd (omega (arith, ints))
lower_is (At a) (At b) w h k f g =
    let one = f a h (omega (arith, ints)) in
    let other = g b k (omega (arith, ints)) in
    ap At (omega (arith, ints))
lower_is (At a) PlusInf w h k f g = absurd k
lower_is PlusInf e w h k f g = absurd h

upper_is : (d e : Ext) (w : ℤ) → IsOver d w → IsOver e w → ((v : ℤ) → w ≤ℤ v → IsOver d v → IsOver e v)
    → ((v : ℤ) → w ≤ℤ v → IsOver e v → IsOver d v) → d ≡ e
upper_is MinusInf e w h k f g = absurd h
upper_is (At a) MinusInf w h k f g = absurd k
upper_is (At a) (At b) w h k f g =
    let one = f a h (omega (arith, ints)) in
    let other = g b k (omega (arith, ints)) in
    ap At (omega (arith, ints))
upper_is (At a) PlusInf w h k f g = let more = g (a +ℤ pos 1) (omega (arith, ints)) tt in absurd (omega (arith, ints))
upper_is PlusInf MinusInf w h k f g = absurd k
upper_is PlusInf (At b) w h k f g = let more = f (b +ℤ pos 1) (omega (arith, ints)) tt in absurd (omega (arith, ints))
upper_is PlusInf PlusInf w h k f g = refl

pub under_more : (e : Ext) (v w : ℤ) → v ≤ℤ w → IsUnder e v → IsUnder e w
under_more MinusInf v w h under = tt
under_more (At a) v w h under = omega (arith, ints)
under_more PlusInf v w h under = under

pub over_less : (e : Ext) (v w : ℤ) → v ≤ℤ w → IsOver e w → IsOver e v
over_less MinusInf v w h over = over
over_less (At b) v w h over = omega (arith, ints)
over_less PlusInf v w h over = tt

pub record AreSame (d e f g : Ext) : Type 0 where
  pub low : d ≡ f
  pub high : e ≡ g

one_slopes_for : (items : List Ext) (x : ℤ) (low high other_low other_high : Ext) (b d : Bool) → IsCurveList items
    → IsSlopes items x low high → IsSlopes items x other_low other_high → is_below (At x) (first items) ≡ b → is_below (last items) (At x) ≡ d
    → AreSame low high other_low other_high
one_slopes_for items x low high other_low other_high true d list one other e f =
    let p = one.below e in
    let q = other.below e in
    record { low = p.one ∙ sym q.one; high = p.other ∙ sym q.other }
one_slopes_for items x low high other_low other_high false true list one other e f =
    let p = one.above f in
    let q = other.above f in
    record { low = p.one ∙ sym q.one; high = p.other ∙ sym q.other }
one_slopes_for items x low high other_low other_high false false list one other e f =
    let some = tension_of_flow items x list (record { least = not_above_least (first items) x e; most = not_below_most (last items) x f }) in
    let w = some.0 in
    let here = (one.pairs w).0 some.1 in
    let there = (other.pairs w).0 some.1 in
    record {
      low = lower_is low other_low w here.0 there.0
          (λ v less under. ((other.pairs v).0 ((one.pairs v).1 (under, over_less high v w less here.1))).0)
          (λ v less under. ((one.pairs v).0 ((other.pairs v).1 (under, over_less other_high v w less there.1))).0);
      high = upper_is high other_high w here.1 there.1
          (λ v more over. ((other.pairs v).0 ((one.pairs v).1 (under_more low w v more here.0, over))).1)
          (λ v more over. ((one.pairs v).0 ((other.pairs v).1 (under_more other_low w v more there.0, over))).1);
    }

pub one_slopes : (items : List Ext) (x : ℤ) (low high other_low other_high : Ext) → IsCurveList items
    → IsSlopes items x low high → IsSlopes items x other_low other_high → AreSame low high other_low other_high
one_slopes items x low high other_low other_high list one other =
    one_slopes_for items x low high other_low other_high (is_below (At x) (first items)) (is_below (last items) (At x)) list one other refl refl

-- a range is the slopes of the conjugate
pub one_range : (items : List Ext) (v : ℤ) (low high other_low other_high : Ext) → IsCurveList items
    → IsRange items v low high → IsRange items v other_low other_high → AreSame low high other_low other_high
one_range items v low high other_low other_high list one other =
    one_slopes (conjugate_items items) v low high other_low other_high (conjugate-is_list items list).is_list
    (slopes-conjugate items v low high list one)
    (slopes-conjugate items v other_low other_high list other)

-- an answer of a reading is that of the walk
pub slopes_are_walks : (items : List Ext) (x : ℤ) (low high : Ext) → IsCurveList items → IsSlopes items x low high
    → AreSame low high (slope_left items x) (slope_left items (x +ℤ pos 1))
slopes_are_walks items x low high list slopes =
    one_slopes items x low high (slope_left items x) (slope_left items (x +ℤ pos 1)) list slopes (slopes_of_walk items list x)

pub range_is_walks : (items : List Ext) (v : ℤ) (low high : Ext) → IsCurveList items → IsRange items v low high
    → AreSame low high (walk (is_under (At v)) items) (walk (is_under (At (v +ℤ pos 1))) items)
range_is_walks items v low high list range =
    one_range items v low high (walk (is_under (At v)) items) (walk (is_under (At (v +ℤ pos 1))) items) list range (range_of_walk items list v)
