-- The curve list of pairs, pair by pair, and that it is a curve's.
use Rattle.std.proofs.Common.{◌≡◌, ℕ, zero, suc, ◌+◌, ◌*◌, ◌<◌, ◌≤◌, ℤ, pos, List, [], ◌∷◌, ◌++◌, length, drop, slice_index_or, refl, sym, ap, ◌∙◌, append_assoc, arith}
use Rattle.std.proofs.lemmas.Int.{ints}
use Rattle.std.proofs.lemmas.List.{drop_more}
use Rattle.theory.specs.declared.ext.Ext.{Ext}
use Rattle.theory.specs.declared.ext.Ext.TheVariants.{At}
use Rattle.theory.specs.Ends.{whole}
use Rattle.theory.specs.Limits.{AreWithin, IsWithin, number_most, base_most, list_most}
use Rattle.theory.specs.Sums.{Each}
use Rattle.theory.proofs.Bounds.{nothing_within}
use Rattle.mono_curve.specs.CurveValue.{IsValidCurve}
use Rattle.transport_front.specs.declared.pair.Pair.{Pair}
use Rattle.transport_front.specs.Table.{size_of, after, priced, listed, ArePairs}
use Rattle.transport_front.proofs.Prices.{priced_list}

length-after : (before : ℕ) (ps : List Pair) → length (after before ps) ≡ 2 * length ps
length-after before [] = refl
length-after before (p ∷ ps) = let e = length-after (before + p.size) ps in omega arith

pub length-priced : (pairs : List Pair) → length (priced pairs) ≡ 2 * length pairs + 1
length-priced pairs = let e = length-after 0 pairs in omega arith

each_within : (n : ℕ) (items : List Ext) → Each (λ e. IsWithin n (whole e)) items → AreWithin n items
each_within n [] each k there = absurd (omega arith)
each_within n (e ∷ items) each zero there = each.0
each_within n (e ∷ items) each (suc k) there = each_within n items each.1 k (omega arith)

after_within : (before : ℕ) (ps : List Pair) → ((k : ℕ) (d : Pair) → k < length ps → IsWithin number_most (slice_index_or ps k d).price) → before + size_of ps ≤ number_most
    → Each (λ e. IsWithin number_most (whole e)) (after before ps)
after_within before [] prices most = tt
after_within before (p ∷ ps) prices most = (
  prices 0 p (omega arith),
  ((omega (arith, ints), omega (arith, ints)), after_within (before + p.size) ps (λ k d there. prices (suc k) d (omega arith)) (omega arith)),
)

pub priced_valid : (pairs : List Pair) → ArePairs pairs → IsValidCurve (listed (priced pairs))
priced_valid pairs are = record {
  is_list = priced_list pairs are;
  short = omega (arith, length-priced pairs, are.few);
  items_within = each_within number_most (priced pairs) (nothing_within number_most, after_within 0 pairs are.prices (omega (arith, are.total)));
  base_within = nothing_within base_most;
}

module _ (pairs : List Pair) (k : ℕ) (d : Pair) (here : k < length pairs) where
  pub size_with : size_of (drop k pairs) ≡ (slice_index_or pairs k d).size + size_of (drop (k + 1) pairs)
  size_with = ap size_of (drop_more pairs k d here)

  pub list_with : (items whole_list : List Ext) (total : ℕ) → items ++ after total (drop k pairs) ≡ whole_list
      → ((items ++ At (slice_index_or pairs k d).price ∷ []) ++ At (pos (total + (slice_index_or pairs k d).size)) ∷ [])
      ++ after (total + (slice_index_or pairs k d).size) (drop (k + 1) pairs) ≡ whole_list
  list_with items whole_list total so_far =
      append_assoc (items ++ At (slice_index_or pairs k d).price ∷ []) (At (pos (total + (slice_index_or pairs k d).size)) ∷ []) (after (total + (slice_index_or pairs k d).size) (drop (k + 1) pairs))
      ∙ append_assoc items (At (slice_index_or pairs k d).price ∷ []) (At (pos (total + (slice_index_or pairs k d).size)) ∷ after (total + (slice_index_or pairs k d).size) (drop (k + 1) pairs))
      ∙ ap (λ ps. items ++ after total ps) (sym (drop_more pairs k d here)) ∙ so_far
