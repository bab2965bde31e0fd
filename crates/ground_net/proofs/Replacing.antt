-- Another curve in the place of one arc's: the arcs stay, and so does every other curve. So what holds of each curve still holds.
use Rattle.std.proofs.Common.{◌≡◌, ◌≢◌, ℕ, ◌<◌, length, List, slice_set, sym, ap, ◌∙◌, subst, ⊎_elim, get_or-set_other, get_or-set_same, arith}
use Rattle.std.proofs.lemmas.Bool.{cases_eq}
use Rattle.std.proofs.lemmas.List.{length-set, map-set}
use Rattle.theory.specs.CurveList.{Listing, IsCurveList}
use Rattle.theory.specs.Network.{Network, IsNetwork, curve}
use Rattle.model_text.specs.Model.{IsWithinLimits}
use Rattle.mono_curve.specs.CurveValue.{CurveValue}
use Rattle.ground_net.specs.Ground.{IsGrounded, listings, replaced}

-- the lists of curves of which one was written
pub written : (curves : List CurveValue) (j : ℕ) (c d : CurveValue) → d ≡ c → listings (slice_set curves j d) ≡ slice_set (listings curves) j c.listing
written curves j c d is =
    map-set (λ (v : CurveValue). v.listing) curves j d ∙ ap (λ (v : CurveValue). slice_set (listings curves) j v.listing) is

pub replaced-there : (net : Network) (j : ℕ) (c : Listing) → j < length net.curves → curve (replaced net j c) j ≡ c
replaced-there net j c there = get_or-set_same net.curves j c _ there

pub replaced-elsewhere : (net : Network) (j : ℕ) (c : Listing) (k : ℕ) → k ≢ j → curve (replaced net j c) k ≡ curve net k
replaced-elsewhere net j c k other = get_or-set_other net.curves j k c _ other

pub replaced-each : (P : Listing → Type 0) (net : Network) (j : ℕ) (c : Listing) → IsNetwork net → j < length net.arcs → P c
    → ((k : ℕ) → k < length net.arcs → P (curve net k)) → (k : ℕ) → k < length net.arcs → P (curve (replaced net j c) k)
replaced-each P net j c good there new before k place =
    ⊎_elim
    (λ (same : k ≡ j). rw same (subst P (sym (replaced-there net j c (omega (arith, good.one_curve_each)))) new))
    (λ (other : k ≢ j). subst P (sym (replaced-elsewhere net j c k other)) (before k place))
    (cases_eq k j)

pub replaced_is_network : (net : Network) (j : ℕ) (c : Listing) → IsNetwork net → j < length net.arcs → IsCurveList c.items
    → IsNetwork (replaced net j c)
replaced_is_network net j c good there list = record {
  tails = good.tails;
  heads = good.heads;
  no_loops = good.no_loops;
  one_curve_each = length-set net.curves j c ∙ good.one_curve_each;
  curve_lists = replaced-each (λ l. IsCurveList l.items) net j c good there list good.curve_lists;
}

pub replaced_is_grounded : (net : Network) (j : ℕ) (c : Listing) → IsGrounded net → j < length net.arcs → IsCurveList c.items → IsWithinLimits c
    → IsGrounded (replaced net j c)
replaced_is_grounded net j c good there list limits = record {
  is_network = replaced_is_network net j c good.is_network there list;
  tails = good.tails;
  heads = good.heads;
  ground_there = good.ground_there;
  arc_each = good.arc_each;
  few_nodes = good.few_nodes;
  few_arcs = good.few_arcs;
  curves_within = replaced-each IsWithinLimits net j c good.is_network there limits good.curves_within;
}
