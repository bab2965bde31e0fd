-- What a slice of curves keeps, as a bundle has to.
use Rattle.std.specs.Prelude.{ℕ, zero, suc, List, [], ◌∷◌, map, max}
use Rattle.std.proofs.Common.{arith}
use Rattle.std.proofs.lemmas.Int.{ints}
use Rattle.theory.specs.declared.ext.Ext.{Ext}
use Rattle.theory.specs.CurveList.{IsCurveList}
use Rattle.theory.specs.Limits.{AreWithin, number_most}
use Rattle.theory.proofs.Shape.{single, place_of_shape}
use Rattle.theory.specs.Network.{list_at}

-- the greatest number that f gives to one of a list
abbrev pub greatest : {A : Type 0} → (A → ℕ) → List A → ℕ
greatest f [] = 0
greatest f (x ∷ xs) = max (f x) (greatest f xs)

pub all_lists : {A : Type 0} (f : A → List Ext) → ((a : A) → IsCurveList (f a)) → (xs : List A) (j : ℕ) → IsCurveList (list_at (map f xs) j)
all_lists f law [] j = place_of_shape single
all_lists f law (x ∷ xs) zero = law x
all_lists f law (x ∷ xs) (suc j) = all_lists f law xs j

point_within : (k : ℕ) → AreWithin number_most (list_at [] k)
point_within k zero l = (omega (arith, ints), omega (arith, ints))
point_within k (suc i) l = absurd (omega arith)

pub all_within : {A : Type 0} (f : A → List Ext) → ((a : A) → AreWithin number_most (f a)) → (xs : List A) (j : ℕ)
    → AreWithin number_most (list_at (map f xs) j)
all_within f law [] j = point_within j
all_within f law (x ∷ xs) zero = law x
all_within f law (x ∷ xs) (suc j) = all_within f law xs j
