-- How a flow is clamped. One arc's flow moves by d, and with it the excess at its tail by -d and at its head by d, so the excesses
-- stay what the flow makes of them, and the surpluses grow by no more than d without its sign: of the two nodes only one gets more.
use Rattle.std.proofs.Common.{◌≡◌, ◌≢◌, ℕ, zero, suc, ◌+◌, ◌*◌, ◌<◌, ◌≤◌, ◌==◌, ℤ, pos, negsuc, ◌+ℤ◌, ◌-ℤ◌, neg_ℤ, ◌≤ℤ◌, Bool, true, false, List, length, set, refl, sym, ap, ◌∙◌, subst, ⊎_elim, eq-eqb, add-one, arith}
use Rattle.std.specs.Prelude.{unsigned_abs}
use Rattle.std.proofs.lemmas.Int.{ints}
use Rattle.std.proofs.lemmas.Bool.{cases_eq, cases_lt, ne_eqb}
use Rattle.std.proofs.lemmas.List.{get_or-set_same, get_or-set_other}
use Rattle.theory.specs.declared.ext.Ext.{Ext}
use Rattle.theory.specs.Sums.{counted, positive_part}
use Rattle.theory.specs.Limits.{IsWithin}
use Rattle.theory.specs.Readings.{IsRange}
use Rattle.theory.specs.Network.{«at», tail, head, list_at}
use Rattle.theory.specs.Conserved.{tension}
use Rattle.net_incidence.specs.Graph.{Graph, bare}
use Rattle.painted_search.specs.Room.{Room}
use Rattle.painted_search.specs.Writes.{with_flow, with_scratch}
use Rattle.theory.proofs.Counting.{total_below-same, total_below-change}
use Rattle.kilter_solver.specs.Ranges.{shift_most, excess_most, far_most, word_most}
use Rattle.kilter_solver.specs.Excess.{excess, AreExcesses, surpluses}
use Rattle.kilter_solver.specs.Clamping.{IsClosest, IsClosestFlow, shifts, IsClampedBelow, IsClampable, IsShifted, IsClampedOne}
use Rattle.kilter_solver.proofs.Pushing.{divergence-changed}

-- ---- between the ends of a range

pub closest-flow : (items : List Ext) (x v z : ℤ) (low high : Ext) → IsRange items v low high → IsClosest low high x z → IsClosestFlow items x v z
closest-flow items x v z low high range closest = record {
  pair = (range.pairs z).1 (closest.under, closest.over);
  closest = λ most y pair near. let ends = (range.pairs y).0 pair in closest.closest most y ends.0 ends.1 near;
}

-- ---- one arc

excess-set : (w : Room) (i : ℕ) (z : ℤ) → i < w.nodes → excess (with_scratch w i z) i ≡ z
excess-set w i z l = get_or-set_same w.scratch i z (pos 0) (omega (arith, w.two_words_each))

excess-kept : (w : Room) (i k : ℕ) (z : ℤ) → k ≢ i → excess (with_scratch w i z) k ≡ excess w k
excess-kept w i k z other = get_or-set_other w.scratch i k z (pos 0) other

-- the excess of a node after an amount is added at one
excess-added : (w r : Room) (i k : ℕ) (z : ℤ) → i < w.nodes → r ≡ with_scratch w i (excess w i +ℤ z) → excess r k ≡ excess w k +ℤ counted (i == k) z
excess-added w r i k z l is =
    let written = ap (λ (s : Room). excess s k) is in
    ⊎_elim
    (λ (same : k ≡ i).
    let hit : counted (i == k) z ≡ z = rw (eq-eqb i k (sym same)) refl in
    let here = excess-set w i (excess w i +ℤ z) l in
    let e : excess (with_scratch w i (excess w i +ℤ z)) k ≡ excess (with_scratch w i (excess w i +ℤ z)) i = ap (excess (with_scratch w i (excess w i +ℤ z))) same in
    let f : excess w k ≡ excess w i = ap (excess w) same in
    omega (arith, ints))
    (λ (other : k ≡ i → ⊥).
    let miss : counted (i == k) z ≡ pos 0 = rw (ne_eqb i k (λ e. other (sym e))) refl in
    let kept = excess-kept w i k (excess w i +ℤ z) other in
    omega (arith, ints))
    (cases_eq k i)

counted-negated : (b : Bool) (d : ℤ) → counted b (neg_ℤ d) ≡ neg_ℤ (counted b d)
counted-negated true d = refl
counted-negated false d = refl

counted-off : (i k : ℕ) (z : ℤ) → k ≢ i → counted (i == k) z ≡ pos 0
counted-off i k z other = rw (ne_eqb i k (λ e. other (sym e))) refl

pub shifted : (g : Graph) (j : ℕ) (x d : ℤ) (v p q w : Room) → j < length g.arcs → v.nodes ≡ g.nodes → v.arcs ≡ length g.arcs
    → p ≡ with_flow v j x → x ≡ «at» v.flows j +ℤ d
    → q ≡ with_scratch p (tail (bare g) j) (excess p (tail (bare g) j) +ℤ neg_ℤ d)
    → w ≡ with_scratch q (head (bare g) j) (excess q (head (bare g) j) +ℤ d)
    → IsShifted g j d v w
shifted g j x d v p q w there nodes arcs p_is x_is q_is w_is =
    let from = tail (bare g) j in
    let to = head (bare g) j in
    let from_there = g.good.tails j there in
    let to_there = g.good.heads j there in
    let p_nodes : p.nodes ≡ g.nodes = ap (λ (r : Room). r.nodes) p_is ∙ nodes in
    let q_nodes : q.nodes ≡ g.nodes = ap (λ (r : Room). r.nodes) q_is ∙ p_nodes in
    let flows : w.flows ≡ set v.flows j x =
    ap (λ (r : Room). r.flows) w_is ∙ ap (λ (r : Room). r.flows) q_is ∙ ap (λ (r : Room). r.flows) p_is in
    let first = λ (i : ℕ). excess-added p q from i (neg_ℤ d) (omega arith) q_is in
    let second = λ (i : ℕ). excess-added q w to i d (omega arith) w_is in
    let start : (i : ℕ) → excess p i ≡ excess v i = (λ i. ap (λ (r : Room). excess r i) p_is) in
    record {
      same = record {
        nodes = ap (λ (r : Room). r.nodes) w_is ∙ ap (λ (r : Room). r.nodes) q_is ∙ ap (λ (r : Room). r.nodes) p_is;
        arcs = ap (λ (r : Room). r.arcs) w_is ∙ ap (λ (r : Room). r.arcs) q_is ∙ ap (λ (r : Room). r.arcs) p_is;
        potentials = ap (λ (r : Room). r.potentials) w_is ∙ ap (λ (r : Room). r.potentials) q_is ∙ ap (λ (r : Room). r.potentials) p_is;
      };
      here = ap (λ (xs : List ℤ). «at» xs j) flows ∙ get_or-set_same v.flows j x (pos 0) (omega (arith, v.sized.one_flow_each)) ∙ x_is;
      others = λ k other. ap (λ (xs : List ℤ). «at» xs k) flows ∙ get_or-set_other v.flows j k x (pos 0) other;
      excesses = λ i l. (
          let a = first i in
          let b = second i in
          let c = start i in
          let n = counted-negated (from == i) d in
          omega (arith, ints));
    }

-- the same with the numbers as the code has them
pub shifted-by : (g : Graph) (j from to : ℕ) (x a b : ℤ) (v p q w : Room) → j < length g.arcs → v.nodes ≡ g.nodes → v.arcs ≡ length g.arcs
    → from ≡ tail (bare g) j → to ≡ head (bare g) j
    → p ≡ with_flow v j x → q ≡ with_scratch p from (excess p from +ℤ a) → w ≡ with_scratch q to (excess q to +ℤ b)
    → a ≡ neg_ℤ (x -ℤ «at» v.flows j) → b ≡ x -ℤ «at» v.flows j
    → IsShifted g j (x -ℤ «at» v.flows j) v w
shifted-by g j from to x a b v p q w there nodes arcs from_is to_is p_is q_is w_is a_is b_is =
    shifted g j x (x -ℤ «at» v.flows j) v p q w there nodes arcs p_is (omega (arith, ints))
    (q_is
    ∙ ap (λ (n : ℕ). with_scratch p n (excess p n +ℤ a)) from_is
    ∙ ap (λ (z : ℤ). with_scratch p (tail (bare g) j) (excess p (tail (bare g) j) +ℤ z)) a_is)
    (w_is
    ∙ ap (λ (n : ℕ). with_scratch q n (excess q n +ℤ b)) to_is
    ∙ ap (λ (z : ℤ). with_scratch q (head (bare g) j) (excess q (head (bare g) j) +ℤ z)) b_is)

pub word-within : (w r : Room) (i k : ℕ) (z : ℤ) → i < w.nodes → r ≡ with_scratch w i (excess w i +ℤ z) → IsWithin shift_most z
    → IsWithin (far_most + excess_most) (excess w k) → IsWithin word_most (excess r k)
word-within w r i k z l is small old =
    let e = excess-added w r i k z l is in
    let part = counted-bound (i == k) z small in
    let low = part.0 in
    let high = part.1 in
    let old_low = old.0 in
    let old_high = old.1 in
    (omega (arith, ints), omega (arith, ints))
  where
    counted-bound : (b : Bool) (d : ℤ) → IsWithin shift_most d → IsWithin shift_most (counted b d)
    counted-bound true d within = within
    counted-bound false d within = (omega (arith, ints), omega (arith, ints))

pub clamped-one : (g : Graph) (lists : List (List Ext)) (j : ℕ) (z : ℤ) (v w : Room) → IsClampable g lists v j
    → IsClosestFlow (list_at lists j) («at» v.flows j) (tension (bare g) («at» v.potentials) j) z
    → IsShifted g j (z -ℤ «at» v.flows j) v w → IsClampedOne g lists j v w
clamped-one g lists j z v w ready closest shift =
    let here : z ≡ «at» w.flows j = (let h = shift.here in omega (arith, ints)) in
    record {
      shift = z -ℤ «at» v.flows j;
      shifted = shift;
      small = closest.closest shift_most ready.near.flow ready.near.pair ready.near.near;
      closest = subst (λ (x : ℤ). IsClosestFlow (list_at lists j) («at» v.flows j) (tension (bare g) («at» v.potentials) j) x) here closest;
    }

-- ---- what one arc adds

part-added : (y z : ℤ) → positive_part (y +ℤ z) ≤ positive_part y + positive_part z
part-added (pos m) (pos n) = omega arith
part-added (pos m) (negsuc n) = by_part (pos m +ℤ negsuc n) (omega (arith, ints))
  where
    by_part : (s : ℤ) → s ≤ℤ pos m → positive_part s ≤ m + 0
    by_part (pos k) h = omega (arith, ints)
    by_part (negsuc k) h = omega arith
part-added (negsuc m) (pos n) = by_part (negsuc m +ℤ pos n) (omega (arith, ints))
  where
    by_part : (s : ℤ) → s ≤ℤ pos n → positive_part s ≤ 0 + n
    by_part (pos k) h = omega (arith, ints)
    by_part (negsuc k) h = omega arith
part-added (negsuc m) (negsuc n) = omega arith

part-both : (d : ℤ) → positive_part (neg_ℤ d) + positive_part d ≡ unsigned_abs d
part-both (pos zero) = refl
part-both (pos (suc n)) = omega arith
part-both (negsuc n) = omega arith

surpluses-added : (n i : ℕ) (e f : ℕ → ℤ) (z : ℤ) → i < n → ((k : ℕ) → k < n → f k ≡ e k +ℤ counted (i == k) z)
    → surpluses n f ≤ surpluses n e + positive_part z
surpluses-added n i e f z l is =
    let change = total_below-change n i (λ k. positive_part (e k)) (λ k. positive_part (f k)) l
    (λ k h other.
    let a = is k h in
    let off = counted-off i k z other in
    let same : f k ≡ e k = omega (arith, ints) in
    ap positive_part same) in
    let hit : counted (i == i) z ≡ z = rw (eq-eqb i i refl) refl in
    let here : f i ≡ e i +ℤ z = (let a = is i l in omega (arith, ints)) in
    let most = part-added (e i) z in
    let same : positive_part (f i) ≡ positive_part (e i +ℤ z) = ap positive_part here in
    omega arith

pub surpluses-shifted : (g : Graph) (j : ℕ) (d : ℤ) (v w : Room) → j < length g.arcs → IsShifted g j d v w
    → surpluses g.nodes (excess w) ≤ surpluses g.nodes (excess v) + unsigned_abs d
surpluses-shifted g j d v w there shift =
    let from = tail (bare g) j in
    let to = head (bare g) j in
    let middle : ℕ → ℤ = λ i. excess v i +ℤ counted (from == i) (neg_ℤ d) in
    let one = surpluses-added g.nodes from (excess v) middle (neg_ℤ d) (g.good.tails j there) (λ k l. refl) in
    let other = surpluses-added g.nodes to middle (excess w) d (g.good.heads j there)
    (λ k l. let e = shift.excesses k l in let n = counted-negated (from == k) d in omega (arith, ints)) in
    let both = part-both d in
    omega arith

pub excesses-shifted : (g : Graph) (j : ℕ) (d : ℤ) (v w : Room) → j < length g.arcs → IsShifted g j d v w
    → AreExcesses (bare g) («at» v.flows) (excess v) → AreExcesses (bare g) («at» w.flows) (excess w)
excesses-shifted g j d v w there shift before = record {
  exact = λ i l.
      let e = shift.excesses i l in
      let old = before.exact i l in
      let law = divergence-changed (bare g) («at» v.flows) («at» w.flows) j d there (λ k h other. shift.others k other) shift.here i in
      omega (arith, ints);
}

counted-within : (b : Bool) (n : ℕ) (d : ℤ) → IsWithin n d → IsWithin n (counted b d)
counted-within true n d within = within
counted-within false n d within = (omega (arith, ints), omega (arith, ints))

-- an arc has two ends, so each excess grows by at most the shift
pub small-shifted : (g : Graph) (j : ℕ) (d : ℤ) (v w : Room) (most : ℕ) → j < length g.arcs → IsShifted g j d v w → IsWithin shift_most d
    → ((i : ℕ) → i < g.nodes → IsWithin most (excess v i)) → (i : ℕ) → i < g.nodes → IsWithin (most + shift_most) (excess w i)
small-shifted g j d v w most there shift small before i below =
    let old = before i below in
    let low = old.0 in
    let high = old.1 in
    let d_low = small.0 in
    let d_high = small.1 in
    let from = tail (bare g) j in
    let to = head (bare g) j in
    let e = shift.excesses i below in
    ⊎_elim
    (λ (at_from : i ≡ from).
    let off = counted-off to i d (λ e. g.good.no_loops j there (sym at_from ∙ e)) in
    let hit : counted (from == i) d ≡ d = rw (eq-eqb from i (sym at_from)) refl in
    within_two (omega (arith, ints)) (omega (arith, ints)))
    (λ (off_from : i ≡ from → ⊥).
    let off = counted-off from i d off_from in
    let within = counted-within (to == i) shift_most d small in
    let w_low = within.0 in
    let w_high = within.1 in
    within_two (omega (arith, ints)) (omega (arith, ints)))
    (cases_eq i from)
  where
    within_two : neg_ℤ (pos (most + shift_most)) ≤ℤ excess w i → excess w i ≤ℤ pos (most + shift_most) → IsWithin (most + shift_most) (excess w i)
    within_two low high = (low, high)

-- ---- arc by arc

shifts-more : (n : ℕ) (x y z : List ℤ) → ((j : ℕ) → j < n → «at» z j ≡ «at» y j) → «at» y n ≡ «at» x n
    → shifts (n + 1) x z ≡ shifts n x y + unsigned_abs («at» z n -ℤ «at» y n)
shifts-more n x y z same here =
    let before = total_below-same n (λ j. unsigned_abs («at» z j -ℤ «at» x j)) (λ j. unsigned_abs («at» y j -ℤ «at» x j))
    (λ j l. ap (λ a. unsigned_abs (a -ℤ «at» x j)) (same j l)) in
    let last : unsigned_abs («at» z n -ℤ «at» x n) ≡ unsigned_abs («at» z n -ℤ «at» y n) = ap (λ a. unsigned_abs («at» z n -ℤ a)) (sym here) in
    rw add-one (omega arith)

pub clamped-more : (g : Graph) (lists : List (List Ext)) (v w r : Room) (n : ℕ) → IsClampedBelow n g lists v w → n < length g.arcs
    → IsClampedOne g lists n w r → IsClampedBelow (n + 1) g lists v r
clamped-more g lists v w r n before there one =
    let shift = one.shifted in
    let stays = before.stays n (omega arith) in
    let tension_same : tension (bare g) («at» w.potentials) ≡ tension (bare g) («at» v.potentials) =
    ap (λ (u : List ℤ). tension (bare g) («at» u)) before.same.potentials in
    let grown = surpluses-shifted g n one.shift w r there shift in
    let gap : «at» r.flows n -ℤ «at» w.flows n ≡ one.shift = (let h = shift.here in omega (arith, ints)) in
    let size : unsigned_abs («at» r.flows n -ℤ «at» w.flows n) ≡ unsigned_abs one.shift = ap unsigned_abs gap in
    let total = shifts-more n v.flows w.flows r.flows (λ j l. shift.others j (λ e. omega arith)) stays in
    let surplus = before.surplus in
    record {
      same = record {
        nodes = shift.same.nodes ∙ before.same.nodes;
        arcs = shift.same.arcs ∙ before.same.arcs;
        potentials = shift.same.potentials ∙ before.same.potentials;
      };
      excesses = excesses-shifted g n one.shift w r there shift before.excesses;
      small = λ i l. (
          let s = small-shifted g n one.shift w r (excess_most + n * shift_most) there shift one.small before.small i l in
          let low = s.0 in
          let high = s.1 in
          (omega (arith, ints), omega (arith, ints)));
      closest = λ j l. ⊎_elim
          (λ (below : j < n).
          subst (λ (x : ℤ). IsClosestFlow (list_at lists j) («at» v.flows j) (tension (bare g) («at» v.potentials) j) x)
          (sym (shift.others j (λ e. omega arith))) (before.closest j below))
          (λ (above : n ≤ j).
          let same : n ≡ j = omega arith in
          let P : ℕ → Type 0 = λ k. IsClosestFlow (list_at lists k) («at» v.flows k) (tension (bare g) («at» v.potentials) k) («at» r.flows k) in
          subst P same
          (subst (λ (t : ℕ → ℤ). IsClosestFlow (list_at lists n) («at» v.flows n) (t n) («at» r.flows n)) tension_same
          (subst (λ (x : ℤ). IsClosestFlow (list_at lists n) x (tension (bare g) («at» w.potentials) n) («at» r.flows n)) stays one.closest)))
          (cases_lt j n);
      stays = λ j l. shift.others j (λ e. omega arith) ∙ before.stays j (omega arith);
      surplus = omega arith;
    }
