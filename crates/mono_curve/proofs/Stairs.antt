-- A kept list by places, and a halving search over its points or its slopes. Points stand at the even places and slopes at the
-- odd ones, and each kind rises strictly from one place of the kind to the next, so it does from any one to any later one. So
-- among the items of one kind those below a given end are the first ones: the test turns once. A halving search keeps two
-- numbers between which it turns. Where the middle item is below the end all before it are too, and the lower number goes one
-- past the middle; else none from the middle on is, and the upper number comes down to the middle. The items that are not
-- above the end are the same ones, and one more where the first item that isn't below it is the end itself.
use Rattle.std.proofs.Common.{◌≡◌, ℕ, zero, suc, ◌+◌, ◌-◌, ◌*◌, ◌<◌, ◌≤◌, Bool, true, false, not, List, length, refl, ap, subst, inl, inr, arith}
use Rattle.std.proofs.lemmas.Bool.{cases_lt}
use Rattle.std.proofs.lemmas.Int.{ints}
use Rattle.theory.specs.declared.ext.Ext.{Ext}
use Rattle.theory.specs.declared.ext.Ext.TheVariants.{MinusInf, At, PlusInf}
use Rattle.theory.specs.Ends.{whole, IsFinite, is_below, IsBelow}
use Rattle.theory.specs.CurveList.{IsCurveList, item}
use Rattle.theory.proofs.Ends.{below_trans, below_asym}
use Rattle.mono_curve.specs.Halving.{IsTurn, count_from, is_item_below, is_item_up_to}

-- ---- the order of ends

pub false_unless : (b : Bool) → (b ≡ true → ⊥) → b ≡ false
false_unless true h = absurd (h refl)
false_unless false h = refl

pub not_true : (b : Bool) → not b ≡ true → b ≡ false
not_true true h = cc
not_true false h = refl

pub not_false : (b : Bool) → not b ≡ false → b ≡ true
not_false true h = refl
not_false false h = cc

pub same_unless_below : (d e : Ext) → is_below d e ≡ false → is_below e d ≡ false → d ≡ e
same_unless_below MinusInf MinusInf g h = refl
same_unless_below MinusInf (At b) g h = cc
same_unless_below MinusInf PlusInf g h = cc
same_unless_below (At a) MinusInf g h = cc
same_unless_below (At a) (At b) g h = ap At (grind (arith, ints))
same_unless_below (At a) PlusInf g h = cc
same_unless_below PlusInf MinusInf g h = cc
same_unless_below PlusInf (At b) g h = cc
same_unless_below PlusInf PlusInf g h = refl

not_below_later : (d e x : Ext) → IsBelow d e → is_below d x ≡ false → is_below e x ≡ false
not_below_later d e x rises h = false_unless (is_below e x) (λ below. let t : is_below d x ≡ true = below_trans d e x rises below in cc)

not_above_earlier : (d e x : Ext) → IsBelow d e → is_below x e ≡ false → is_below x d ≡ false
not_above_earlier d e x rises h = false_unless (is_below x d) (λ below. let t : is_below x e ≡ true = below_trans x d e below rises in cc)

pub below_minus : (d : Ext) → IsBelow d MinusInf → ⊥
below_minus MinusInf h = cc
below_minus (At a) h = cc
below_minus PlusInf h = cc

pub finite_is : (e : Ext) → IsFinite e → e ≡ At (whole e)
finite_is MinusInf h = cc
finite_is (At a) h = refl
finite_is PlusInf h = cc

-- ---- the order of a list

rises_by : (items : List Ext) → IsCurveList items → (a d : ℕ) → a + 2 * d + 2 < length items → IsBelow (item items a) (item items (a + 2 * d + 2))
rises_by items list a zero h = let e : a + 2 * zero + 2 ≡ a + 2 = omega arith in rw e (list.rises a (omega arith))
rises_by items list a (suc d) h =
    let e : a + 2 * suc d + 2 ≡ a + 2 * d + 2 + 2 = omega arith in
    rw e
    (below_trans (item items a) (item items (a + 2 * d + 2)) (item items (a + 2 * d + 2 + 2)) (rises_by items list a d (omega arith)) (list.rises (a + 2 * d + 2) (omega arith)))

pub rises_to : (items : List Ext) → IsCurveList items → (start j k : ℕ) → j < k → 2 * k + start < length items → IsBelow (item items (2 * j + start)) (item items (2 * k + start))
rises_to items list start j k h inside =
    let e : 2 * k + start ≡ 2 * j + start + 2 * (k - j - 1) + 2 = omega arith in
    rw e (rises_by items list (2 * j + start) (k - j - 1) (omega arith))

pub later_not_below : (items : List Ext) → IsCurveList items → (x : Ext) (start j k : ℕ) → j ≤ k → 2 * k + start < length items → is_below (item items (2 * j + start)) x ≡ false → is_below (item items (2 * k + start)) x ≡ false
later_not_below items list x start j k order inside h = elim (cases_lt j k) [
  | inl less ↦ not_below_later (item items (2 * j + start)) (item items (2 * k + start)) x (rises_to items list start j k less inside) h
  | inr same ↦ (let e : k ≡ j = omega arith in rw e h)
]

pub earlier_not_above : (items : List Ext) → IsCurveList items → (x : Ext) (start j k : ℕ) → j ≤ k → 2 * k + start < length items → is_below x (item items (2 * k + start)) ≡ false → is_below x (item items (2 * j + start)) ≡ false
earlier_not_above items list x start j k order inside h = elim (cases_lt j k) [
  | inl less ↦ not_above_earlier (item items (2 * j + start)) (item items (2 * k + start)) x (rises_to items list start j k less inside) h
  | inr same ↦ (let e : j ≡ k = omega arith in rw e h)
]

-- ---- the halving search

-- what a halving search knows: the test turns between the two places
pub record IsNarrowed (test : ℕ → Bool) (count low high : ℕ) : Type 0 where
  pub order : low ≤ high
  pub within : high ≤ count
  pub before : (j : ℕ) → j < low → test j ≡ true
  pub after : (j : ℕ) → high ≤ j → j < count → test j ≡ false

pub narrowed_up : (items : List Ext) (start : ℕ) (e : Ext) (low high middle : ℕ) → IsCurveList items → IsNarrowed (is_item_below items start e) (count_from items start) low high
    → middle < high → is_below (item items (2 * middle + start)) e ≡ true → IsNarrowed (is_item_below items start e) (count_from items start) (middle + 1) high
narrowed_up items start e low high middle list known less below =
    record {
      order = omega arith;
      within = known.within;
      before = λ j h. elim (cases_lt j middle) [
        | inl under ↦ (let inside : 2 * middle + start < length items = omega (arith, known.within) in below_trans (item items (2 * j + start)) (item items (2 * middle + start)) e (rises_to items list start j middle under inside) below)
        | inr same ↦ (let m : j ≡ middle = omega arith in rw m below)
      ];
      after = known.after;
    }

pub narrowed_down : (items : List Ext) (start : ℕ) (e : Ext) (low high middle : ℕ) → IsCurveList items → IsNarrowed (is_item_below items start e) (count_from items start) low high
    → low ≤ middle → middle < high → is_below (item items (2 * middle + start)) e ≡ false → IsNarrowed (is_item_below items start e) (count_from items start) low middle
narrowed_down items start e low high middle list known least less above =
    record {
      order = least;
      within = omega (arith, known.within);
      before = known.before;
      after = λ j h inside. later_not_below items list e start middle j h (omega arith) above;
    }

pub turned_after : (items : List Ext) (start : ℕ) (e : Ext) (k : ℕ) → IsCurveList items → IsTurn (is_item_below items start e) (count_from items start) k
    → k < count_from items start → is_below e (item items (2 * k + start)) ≡ false → IsTurn (is_item_up_to items start e) (count_from items start) (k + 1)
turned_after items start e k list turn inside not_above =
    let same : item items (2 * k + start) ≡ e = same_unless_below (item items (2 * k + start)) e (turn.after k (omega arith) inside) not_above in
    record {
      within = omega arith;
      before = λ j h. elim (cases_lt j k) [ inl under ↦ ap not (below_asym (item items (2 * j + start)) e (turn.before j under)) | inr here ↦ (let m : j ≡ k = omega arith in rw m (ap not not_above)) ];
      after = λ j h there. ap not (subst (λ (f : Ext). IsBelow f (item items (2 * j + start))) same (rises_to items list start k j (omega arith) (omega arith)));
    }

pub turned_at : (items : List Ext) (start : ℕ) (e : Ext) (k : ℕ) → IsCurveList items → IsTurn (is_item_below items start e) (count_from items start) k
    → (k < count_from items start → is_below e (item items (2 * k + start)) ≡ true) → IsTurn (is_item_up_to items start e) (count_from items start) k
turned_at items start e k list turn above =
    record {
      within = turn.within;
      before = λ j h. ap not (below_asym (item items (2 * j + start)) e (turn.before j h));
      after = λ j h there. elim (cases_lt k j) [
        | inl later ↦ ap not (below_trans e (item items (2 * k + start)) (item items (2 * j + start)) (above (omega arith)) (rises_to items list start k j later (omega arith)))
        | inr here ↦ (let m : j ≡ k = omega arith in rw m (ap not (above (omega arith))))
      ];
    }
