-- A model at another scale. A number of it counts units of 10^-before and is counted in units of 10^-after instead, where it is
-- whole there and within the limit; else the model isn't one at that scale.
use Rattle.std.specs.Prelude.{ℕ, suc, ◌*◌, ◌/◌, ◌%◌, ◌^◌, ◌==◌, nat_lt, ℤ, pos, negsuc, neg_ℤ, Bool, false, not, ◌||◌, unsigned_abs, List, [], ◌∷◌, map}
use Rattle.std.specs.List.{list_any}
use Rattle.theory.specs.declared.ext.Ext.{Ext}
use Rattle.theory.specs.declared.ext.Ext.TheVariants.{MinusInf, At, PlusInf}
use Rattle.theory.specs.CurveList.{Listing}
use Rattle.theory.specs.Grounded.{Entries, NodeEntry, ArcEntry}
use Rattle.theory.specs.Limits.{number_most}
use Rattle.model_text.specs.Scale.{cost_decimals}
use Rattle.model_text.specs.declared.scale.Scale.{Scale}
use Rattle.model_text.specs.declared.rescaling.Decimals.{Decimals}

-- ---- numbers

abbrev pub rescaled_units : Decimals → ℕ → ℕ
rescaled_units d n = n * 10 ^ d.after / 10 ^ d.before

-- so many units aren't whole afterwards, or are too many
abbrev pub are_inexact : Decimals → ℕ → Bool
are_inexact d n = not (n * 10 ^ d.after % 10 ^ d.before == 0) || nat_lt number_most (rescaled_units d n)

abbrev pub rescaled_number : Decimals → ℤ → ℤ
rescaled_number d (pos n) = pos (rescaled_units d n)
rescaled_number d (negsuc n) = neg_ℤ (pos (rescaled_units d (suc n)))

abbrev pub rescaled_end : Decimals → Ext → Ext
rescaled_end d MinusInf = MinusInf
rescaled_end d (At a) = At (rescaled_number d a)
rescaled_end d PlusInf = PlusInf

abbrev pub is_end_inexact : Decimals → Ext → Bool
is_end_inexact d MinusInf = false
is_end_inexact d (At a) = are_inexact d (unsigned_abs a)
is_end_inexact d PlusInf = false

-- ---- curves: points and slopes in turn

abbrev pub of_flows : Scale → Scale → Decimals
of_flows s t = record { before = s.flow; after = t.flow }

abbrev pub of_tensions : Scale → Scale → Decimals
of_tensions s t = record { before = s.tension; after = t.tension }

abbrev pub of_costs : Scale → Scale → Decimals
of_costs s t = record { before = cost_decimals s; after = cost_decimals t }

abbrev pub rescaled_items : Decimals → Decimals → List Ext → List Ext
rescaled_items here next [] = []
rescaled_items here next (e ∷ items) = rescaled_end here e ∷ rescaled_items next here items

abbrev pub are_items_inexact : Decimals → Decimals → List Ext → Bool
are_items_inexact here next [] = false
are_items_inexact here next (e ∷ items) = is_end_inexact here e || are_items_inexact next here items

abbrev pub rescaled_curve : Scale → Scale → Listing → Listing
rescaled_curve s t curve = record {
  items = rescaled_items (of_flows s t) (of_tensions s t) curve.items;
  base = rescaled_number (of_costs s t) curve.base;
}

abbrev pub is_curve_inexact : Scale → Scale → Listing → Bool
is_curve_inexact s t curve =
    are_items_inexact (of_flows s t) (of_tensions s t) curve.items || are_inexact (of_costs s t) (unsigned_abs curve.base)

-- ---- models, from scale s to scale t

abbrev pub rescaled_node : Scale → Scale → NodeEntry → NodeEntry
rescaled_node s t node = record { name = node.name; supply = rescaled_curve s t node.supply }

abbrev pub rescaled_arc : Scale → Scale → ArcEntry → ArcEntry
rescaled_arc s t arc = record { name = arc.name; from = arc.from; to = arc.to; curve = rescaled_curve s t arc.curve }

abbrev pub rescaled : Scale → Scale → Entries → Entries
rescaled s t m = record { nodes = map (rescaled_node s t) m.nodes; arcs = map (rescaled_arc s t) m.arcs }

abbrev pub are_nodes_inexact : Scale → Scale → List NodeEntry → Bool
are_nodes_inexact s t nodes = list_any (λ node. is_curve_inexact s t node.supply) nodes

abbrev pub are_arcs_inexact : Scale → Scale → List ArcEntry → Bool
are_arcs_inexact s t arcs = list_any (λ arc. is_curve_inexact s t arc.curve) arcs

abbrev pub is_inexact : Scale → Scale → Entries → Bool
is_inexact s t m = are_nodes_inexact s t m.nodes || are_arcs_inexact s t m.arcs
