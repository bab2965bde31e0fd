-- The lists of the curves that are derived from one: conjugate, reversed, zero-cost, level.
use Rattle.std.specs.Prelude.{ℕ, ◌^◌, pos, Bool, not, ◌&&◌, if◌then◌else◌, List, [], ◌∷◌, map, reverse}
use Rattle.std.specs.Int.{int_div_euclid}
use Rattle.theory.specs.declared.ext.Ext.{Ext}
use Rattle.theory.specs.declared.ext.Ext.TheVariants.{MinusInf, At, PlusInf}
use Rattle.theory.specs.Ends.{negated, is_below}
use Rattle.theory.specs.CurveList.{Listing, first, last}
use Rattle.theory.specs.Span.{rest_tension}
use Rattle.theory.specs.ConjugateCost.{conjugate_cost}

-- ---- the conjugate: points and slopes change places. An infinite end goes; a finite end gets an infinite one beside it.

abbrev pub turned_front : List Ext → List Ext
turned_front [] = []
turned_front (MinusInf ∷ rest) = rest
turned_front (At a ∷ rest) = MinusInf ∷ At a ∷ rest
turned_front (PlusInf ∷ rest) = MinusInf ∷ PlusInf ∷ rest

abbrev pub turned_back : List Ext → List Ext
turned_back [] = []
turned_back (MinusInf ∷ []) = MinusInf ∷ PlusInf ∷ []
turned_back (At b ∷ []) = At b ∷ PlusInf ∷ []
turned_back (PlusInf ∷ []) = []
turned_back (p ∷ r ∷ rest) = p ∷ turned_back (r ∷ rest)

abbrev pub conjugate_items : List Ext → List Ext
conjugate_items items = turned_back (turned_front items)

-- its base is its cost where it rests: the conjugate cost at the point of the span nearest to 0
abbrev pub conjugate_of : Listing → Listing
conjugate_of c = record { items = conjugate_items c.items; base = conjugate_cost 1 c (rest_tension c.items) }

-- ---- the curve of the cost at the opposite flow

abbrev pub reversed_items : List Ext → List Ext
reversed_items items = reverse (map negated items)

abbrev pub reversed_of : Listing → Listing
reversed_of c = record { items = reversed_items c.items; base = c.base }

-- ---- the domain of the curve, at slope 0

abbrev pub zero_cost_items : List Ext → List Ext
zero_cost_items [] = []
zero_cost_items (p ∷ []) = p ∷ []
zero_cost_items (p ∷ r ∷ rest) = p ∷ At (pos 0) ∷ last (r ∷ rest) ∷ []

-- ---- level k: the points divided by 2 ^ k, the last rounded up and the others down; a piece that became a point goes

abbrev pub rounded_down : ℕ → Ext → Ext
rounded_down k MinusInf = MinusInf
rounded_down k (At a) = At (int_div_euclid a (pos (2 ^ k)))
rounded_down k PlusInf = PlusInf

abbrev pub rounded_up : ℕ → Ext → Ext
rounded_up k e = negated (rounded_down k (negated e))

abbrev pub rounded_points : ℕ → List Ext → List Ext
rounded_points k [] = []
rounded_points k (p ∷ []) = rounded_up k p ∷ []
rounded_points k (p ∷ s ∷ rest) = rounded_down k p ∷ s ∷ rounded_points k rest

-- neither is below the other
abbrev pub is_same_end : Ext → Ext → Bool
is_same_end d e = not (is_below d e) && not (is_below e d)

abbrev pub without_flat : List Ext → List Ext
without_flat [] = []
without_flat (p ∷ []) = p ∷ []
without_flat (p ∷ s ∷ rest) = let kept = without_flat rest in if is_same_end p (first kept) then kept else (p ∷ s ∷ kept)

-- a single point becomes the range between its two roundings, at slope 0
abbrev pub level_items : ℕ → List Ext → List Ext
level_items k [] = []
level_items k (p ∷ []) = without_flat (rounded_down k p ∷ At (pos 0) ∷ rounded_up k p ∷ [])
level_items k (p ∷ s ∷ rest) = without_flat (rounded_points k (p ∷ s ∷ rest))
