-- The curves of a slice, by their lists.
use Rattle.std.proofs.Common.{◌≡◌, ℕ, zero, suc, ◌<◌, pos, List, [], ◌∷◌, length, get_or, map, refl, arith}
use Rattle.std.proofs.lemmas.Int.{ints}
use Rattle.std.proofs.lemmas.List.{get_or-map}
use Rattle.theory.specs.declared.ext.Ext.{Ext}
use Rattle.theory.specs.declared.ext.Ext.TheVariants.{At}
use Rattle.theory.specs.CurveList.{IsCurveList}
use Rattle.theory.specs.Limits.{AreWithin, number_most}
use Rattle.theory.specs.Network.{list_at}
use Rattle.theory.specs.Views.{level_items}
use Rattle.theory.proofs.Level.{level-is_list}
use Rattle.theory.proofs.Shape.{single, place_of_shape}
use Rattle.curve_views.specs.LevelFacts.{level_within}
use Rattle.feasible_flow.specs.ByLevels.{levels_of}

each-list : {A : Type 0} (f : A → List Ext) (P : List Ext → Type 0) → P (At (pos 0) ∷ []) → ((a : A) → P (f a)) → (xs : List A) (j : ℕ)
    → P (list_at (map f xs) j)
each-list f P none law [] j = none
each-list f P none law (x ∷ xs) zero = law x
each-list f P none law (x ∷ xs) (suc j) = each-list f P none law xs j

pub record AreCurves (lists : List (List Ext)) : Type 0 where
  pub are_lists : (j : ℕ) → IsCurveList (list_at lists j)
  pub within : (j : ℕ) → AreWithin number_most (list_at lists j)

pub are-curves : {A : Type 0} (f : A → List Ext) → ((a : A) → IsCurveList (f a)) → ((a : A) → AreWithin number_most (f a)) → (xs : List A)
    → AreCurves (map f xs)
are-curves f are_lists within xs = record {
  are_lists = each-list f IsCurveList (place_of_shape single) are_lists xs;
  within = each-list f (AreWithin number_most) (λ k there. let e : k ≡ 0 = omega arith in rw e (omega (arith, ints), omega (arith, ints))) within xs;
}

pub list-of : {A : Type 0} (f : A → List Ext) (xs : List A) (d : A) (j : ℕ) → j < length xs → list_at (map f xs) j ≡ f (get_or xs j d)
list-of f xs d j there = get_or-map f xs j d (At (pos 0) ∷ []) there

-- ---- at a level

pub level-curves : {A : Type 0} (f : A → List Ext) → ((a : A) → IsCurveList (f a)) → ((a : A) → AreWithin number_most (f a)) → (k : ℕ) (xs : List A)
    → AreCurves (levels_of f k xs)
level-curves f are_lists within k xs =
    are-curves (λ a. level_items k (f a)) (λ a. level-is_list k (f a) (are_lists a)) (λ a. level_within k (f a) (within a)) xs

pub levels-at : {A : Type 0} (f : A → List Ext) (k : ℕ) (xs : List A) (j : ℕ) → j < length xs
    → list_at (levels_of f k xs) j ≡ level_items k (list_at (map f xs) j)
levels-at f k [] j l = absurd (omega arith)
levels-at f k (x ∷ xs) zero l = refl
levels-at f k (x ∷ xs) (suc j) l = levels-at f k xs j (omega arith)
