-- The curve of an arc among those of a slice, and its level.
use Rattle.std.proofs.Common.{◌≡◌, ℕ, zero, suc, ◌<◌, ◌≤◌, List, [], ◌∷◌, length, get_or, map, refl, sym, ap, ◌∙◌, arith}
use Rattle.std.proofs.lemmas.List.{get_or-map, length-map}
use Rattle.theory.specs.declared.ext.Ext.{Ext}
use Rattle.theory.specs.Views.{level_items}
use Rattle.theory.specs.Network.{list_at}
use Rattle.kilter_solver.specs.BundleFacts.{greatest}
use Rattle.kilter_solver.specs.Leveling.{levels_of}

pub list-of : {C : Type 0} (items : C → List Ext) (curves : List C) (d : C) (j : ℕ) → j < length curves
    → items (get_or curves j d) ≡ list_at (map items curves) j
list-of items curves d j there = sym (get_or-map items curves j d _ there)

pub greatest-most : {C : Type 0} (weight : C → ℕ) (curves : List C) (d : C) (j : ℕ) → j < length curves → weight (get_or curves j d) ≤ greatest weight curves
greatest-most weight [] d j there = absurd (omega arith)
greatest-most weight (c ∷ curves) d zero there = omega arith
greatest-most weight (c ∷ curves) d (suc j) there = let e = greatest-most weight curves d j (omega arith) in omega arith

-- ---- at a level

pub length-levels : {C : Type 0} (items : C → List Ext) (k : ℕ) (curves : List C) → length (levels_of items k curves) ≡ length curves
length-levels items k curves = length-map curves (λ c. level_items k (items c))

pub levels_of-each : {C : Type 0} (items : C → List Ext) (k : ℕ) (curves : List C) (j : ℕ) → j < length curves
    → list_at (levels_of items k curves) j ≡ level_items k (list_at (map items curves) j)
levels_of-each items k [] j there = absurd (omega arith)
levels_of-each items k (c ∷ curves) zero there = refl
levels_of-each items k (c ∷ curves) (suc j) there = levels_of-each items k curves j (omega arith)

pub level-of : {C : Type 0} (items : C → List Ext) (k : ℕ) (curves : List C) (d : C) (j : ℕ) → j < length curves
    → level_items k (items (get_or curves j d)) ≡ list_at (levels_of items k curves) j
level-of items k curves d j there = ap (level_items k) (list-of items curves d j there) ∙ sym (levels_of-each items k curves j there)
