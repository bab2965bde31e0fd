-- A model that is exact at another scale is exact back at its own, and is the same model there. A number of n units becomes u
-- with u * 10^before = n * 10^after; back it is u * 10^before / 10^after, which is n, and n was within the limit.
use Rattle.std.specs.Prelude.{◌≡◌, ℕ, zero, suc, ◌/◌, ◌%◌, ◌^◌, ◌<◌, ◌≤◌, ◌==◌, nat_lt, ℤ, pos, negsuc, neg_ℤ, Bool, false, not, ◌||◌, unsigned_abs, List, [], ◌∷◌, length, map, refl}
use Rattle.std.proofs.Common.{arith, get_or, ap, ◌∙◌}
use Rattle.std.proofs.Math.Nat.{mul-mod_left, mul-div_cancel}
use Rattle.std.proofs.lemmas.Bool.Decides.{nat_tests}
use Rattle.theory.specs.declared.ext.Ext.{Ext}
use Rattle.theory.specs.declared.ext.Ext.TheVariants.{MinusInf, At, PlusInf}
use Rattle.theory.specs.CurveList.{Listing}
use Rattle.theory.specs.Ends.{whole}
use Rattle.theory.specs.Grounded.{NodeEntry, ArcEntry}
use Rattle.theory.specs.Limits.{number_most, IsWithin, AreWithin}
use Rattle.theory.proofs.Bounds.{abs_within}
use Rattle.model_text.specs.Model.{IsWithinLimits}
use Rattle.model_text.specs.ModelTextLaws.{RescaledBackLaw}
use Rattle.model_text.specs.declared.scale.Scale.{Scale}
use Rattle.model_text.specs.declared.rescaling.Decimals.{Decimals}
use Rattle.model_text.specs.Rescaled.{rescaled_units, are_inexact, rescaled_number, rescaled_end, is_end_inexact, rescaled_items, are_items_inexact, of_flows, of_tensions, of_costs, rescaled_curve, is_curve_inexact, rescaled_node, rescaled_arc, are_nodes_inexact, are_arcs_inexact}
use Rattle.model_text.proofs.ListTests.{neither}
use Rattle.model_text.proofs.RescaleLemmas.{ten-some, exact-units, units-some}

abbrev back : Decimals → Decimals
back d = record { before = d.after; after = d.before }

neither-then : (a b : Bool) → a ≡ false → b ≡ false → (a || b) ≡ false
neither-then a b first second = rw (first, second) refl

module _ (d : Decimals) where
  units-back : (n : ℕ) → n ≤ number_most → are_inexact d n ≡ false
      → (rescaled_units (back d) (rescaled_units d n) ≡ n) × (are_inexact (back d) (rescaled_units d n) ≡ false)
  units-back n few exact =
      let same = exact-units d n exact in
      let is : rescaled_units (back d) (rescaled_units d n) ≡ n = ap (λ finest. finest / 10 ^ d.after) same ∙ mul-div_cancel n (ten-some d.after) in
      (is, neither-then _ _ (by _ (ap (λ finest. finest % 10 ^ d.after) same ∙ mul-mod_left n (10 ^ d.after))) (ap (nat_lt number_most) is ∙ most n few))
    where
      by : (rest : ℕ) → rest ≡ 0 → not (rest == 0) ≡ false
      by rest none = rw none refl

      most : (n : ℕ) → n ≤ number_most → nat_lt number_most n ≡ false
      most n few = grind (arith, nat_tests)

  number-back : (z : ℤ) → IsWithin number_most z → are_inexact d (unsigned_abs z) ≡ false
      → (rescaled_number (back d) (rescaled_number d z) ≡ z) × (are_inexact (back d) (unsigned_abs (rescaled_number d z)) ≡ false)
  number-back (pos n) within exact =
      let again = units-back n (abs_within number_most (pos n) within) exact in
      (ap pos again.0, again.1)
  number-back (negsuc n) within exact =
      by (rescaled_units d (suc n)) (units-some d (suc n) exact (omega arith)) (units-back (suc n) (abs_within number_most (negsuc n) within) exact)
    where
      by : (u : ℕ) → 0 < u → (rescaled_units (back d) u ≡ suc n) × (are_inexact (back d) u ≡ false)
          → (rescaled_number (back d) (neg_ℤ (pos u)) ≡ negsuc n) × (are_inexact (back d) (unsigned_abs (neg_ℤ (pos u))) ≡ false)
      by zero some again = absurd (omega arith)
      by (suc u) some again = (ap (λ (v : ℕ). neg_ℤ (pos v)) again.0, again.1)

  end-back : (e : Ext) → IsWithin number_most (whole e) → is_end_inexact d e ≡ false
      → (rescaled_end (back d) (rescaled_end d e) ≡ e) × (is_end_inexact (back d) (rescaled_end d e) ≡ false)
  end-back MinusInf within exact = (refl, refl)
  end-back (At a) within exact = let again = number-back a within exact in (ap At again.0, again.1)
  end-back PlusInf within exact = (refl, refl)

items-back : (here next : Decimals) (items : List Ext) → AreWithin number_most items → are_items_inexact here next items ≡ false
    → (rescaled_items (back here) (back next) (rescaled_items here next items) ≡ items)
    × (are_items_inexact (back here) (back next) (rescaled_items here next items) ≡ false)
items-back here next [] within exact = (refl, refl)
items-back here next (e ∷ items) within exact =
    let tests = neither (is_end_inexact here e) (are_items_inexact next here items) exact in
    let first = end-back here e (within 0 (omega arith)) tests.0 in
    let rest = items-back next here items (λ k below. within (suc k) (omega arith)) tests.1 in
    (ap (λ f. f ∷ rescaled_items (back next) (back here) (rescaled_items next here items)) first.0 ∙ ap (λ l. e ∷ l) rest.0, neither-then _ _ first.1 rest.1)

module _ (s t : Scale) where
  curve-back : (curve : Listing) → IsWithinLimits curve → is_curve_inexact s t curve ≡ false
      → (rescaled_curve t s (rescaled_curve s t curve) ≡ curve) × (is_curve_inexact t s (rescaled_curve s t curve) ≡ false)
  curve-back curve limits exact =
      let tests = neither (are_items_inexact (of_flows s t) (of_tensions s t) curve.items) (are_inexact (of_costs s t) (unsigned_abs curve.base)) exact in
      let items = items-back (of_flows s t) (of_tensions s t) curve.items limits.items tests.0 in
      let base = number-back (of_costs s t) curve.base limits.base tests.1 in (
        ap (λ (l : List Ext). record { items = l; base = (rescaled_curve t s (rescaled_curve s t curve)).base }) items.0
            ∙ ap (λ (b : ℤ). record { items = curve.items; base = b }) base.0,
        neither-then _ _ items.1 base.1,
      )

  nodes-back : (nodes : List NodeEntry) → ((k : ℕ) (d : NodeEntry) → k < length nodes → IsWithinLimits (get_or nodes k d).supply)
      → are_nodes_inexact s t nodes ≡ false
      → (map (rescaled_node t s) (map (rescaled_node s t) nodes) ≡ nodes) × (are_nodes_inexact t s (map (rescaled_node s t) nodes) ≡ false)
  nodes-back [] limits exact = (refl, refl)
  nodes-back (node ∷ nodes) limits exact =
      let tests = neither (is_curve_inexact s t node.supply) (are_nodes_inexact s t nodes) exact in
      let first = curve-back node.supply (limits 0 node (omega arith)) tests.0 in
      let rest = nodes-back nodes (λ k d below. limits (suc k) d (omega arith)) tests.1 in (
        ap (λ (supply : Listing). record { name = node.name; supply = supply } ∷ map (rescaled_node t s) (map (rescaled_node s t) nodes)) first.0
            ∙ ap (λ l. node ∷ l) rest.0,
        neither-then _ _ first.1 rest.1,
      )

  arcs-back : (arcs : List ArcEntry) → ((k : ℕ) (d : ArcEntry) → k < length arcs → IsWithinLimits (get_or arcs k d).curve)
      → are_arcs_inexact s t arcs ≡ false
      → (map (rescaled_arc t s) (map (rescaled_arc s t) arcs) ≡ arcs) × (are_arcs_inexact t s (map (rescaled_arc s t) arcs) ≡ false)
  arcs-back [] limits exact = (refl, refl)
  arcs-back (arc ∷ arcs) limits exact =
      let tests = neither (is_curve_inexact s t arc.curve) (are_arcs_inexact s t arcs) exact in
      let first = curve-back arc.curve (limits 0 arc (omega arith)) tests.0 in
      let rest = arcs-back arcs (λ k d below. limits (suc k) d (omega arith)) tests.1 in (
        ap (λ (curve : Listing). record { name = arc.name; from = arc.from; to = arc.to; curve = curve } ∷ map (rescaled_arc t s) (map (rescaled_arc s t) arcs)) first.0
            ∙ ap (λ l. arc ∷ l) rest.0,
        neither-then _ _ first.1 rest.1,
      )

pub rescaled_back : RescaledBackLaw
rescaled_back s t m formed exact =
    let tests = neither (are_nodes_inexact s t m.nodes) (are_arcs_inexact s t m.arcs) exact in
    let nodes = nodes-back s t m.nodes formed.supplies tests.0 in
    let arcs = arcs-back s t m.arcs formed.curves tests.1 in (
      ap (λ (l : List NodeEntry). record { nodes = l; arcs = map (rescaled_arc t s) (map (rescaled_arc s t) m.arcs) }) nodes.0
          ∙ ap (λ (l : List ArcEntry). record { nodes = m.nodes; arcs = l }) arcs.0,
      neither-then _ _ nodes.1 arcs.1,
    )
