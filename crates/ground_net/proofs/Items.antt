-- The curves of a grounded network as lists, and the lists without bases: the two differ in their bases alone.
use Rattle.std.proofs.Common.{◌≡◌, ℕ, zero, suc, pos, List, [], ◌∷◌, map, get_or, refl}
use Rattle.theory.specs.declared.ext.Ext.{Ext}
use Rattle.theory.specs.declared.ext.Ext.TheVariants.{At}
use Rattle.theory.specs.CurveList.{Listing}
use Rattle.mono_curve.specs.CurveValue.{CurveValue}
use Rattle.net_incidence.specs.WithoutBases.{without_base}
use Rattle.ground_net.specs.Ground.{listings}

abbrev pub items_of : List CurveValue → List (List Ext)
items_of curves = map (λ c. c.listing.items) curves

abbrev point_at_0 : Listing
point_at_0 = record { items = At (pos 0) ∷ []; base = pos 0 }

pub items-same : (curves : List CurveValue) (j : ℕ)
    → (get_or (map without_base (items_of curves)) j point_at_0).items ≡ (get_or (listings curves) j point_at_0).items
items-same [] j = refl
items-same (c ∷ curves) zero = refl
items-same (c ∷ curves) (suc j) = items-same curves j
