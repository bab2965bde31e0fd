-- A net with a curve for each arc is a network: its ends are its own, and each of its curves is a list of its type's law.
use Rattle.std.proofs.Common.{◌≡◌, ℕ, zero, suc, ◌<◌, List, [], ◌∷◌, length, map, ◌∙◌, arith}
use Rattle.std.proofs.lemmas.List.{length-map}
use Rattle.std.specs.Prelude.{slice_index_or}
use Rattle.theory.specs.CurveList.{IsCurveList, Listing}
use Rattle.theory.specs.Network.{IsNetwork, curve}
use Rattle.net_incidence.specs.Graph.{Graph, network}

each_list : {A : Type 0} (f : A → Listing) (d : Listing) → ((a : A) → IsCurveList (f a).items) → (xs : List A) (j : ℕ) → j < length xs
    → IsCurveList (slice_index_or (map f xs) j d).items
each_list f d law [] j there = absurd (omega arith)
each_list f d law (x ∷ xs) zero there = law x
each_list f d law (x ∷ xs) (suc j) there = each_list f d law xs j (omega arith)

pub net_is_network : {A : Type 0} (f : A → Listing) → ((a : A) → IsCurveList (f a).items) → (g : Graph) (xs : List A)
    → length xs ≡ length g.arcs → IsNetwork (network g (map f xs))
net_is_network f law g xs one_each = record {
  tails = g.good.tails;
  heads = g.good.heads;
  no_loops = g.good.no_loops;
  one_curve_each = length-map xs f ∙ one_each;
  curve_lists = λ j there. each_list f _ law xs j (omega (arith, one_each));
}
