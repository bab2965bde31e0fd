-- Positions by a test, and names without one.
use Rattle.std.proofs.Common.{◌≡◌, ◌≢◌, ℕ, suc, ◌+◌, ◌<◌, ◌≤◌, Bool, true, false, not, cond, nat_lt, List, [], ◌∷◌, length, get_or, map, position, bytes_eq, None, Some, refl, sym, ap, ◌∙◌, arith}
use Rattle.std.specs.List.{position_or_len}
use Rattle.std.specs.Cmp.Lexicographic.{bytes_decides}
use Rattle.std.proofs.lemmas.Bool.{false≢true}
use Rattle.std.proofs.lemmas.Bool.Decides.{nat_tests}
use Rattle.std.proofs.lemmas.List.Sums.{fails_before_first}
use Rattle.model_text.specs.Model.{place_of}

-- the same first place in two lists made of one, by tests that agree
module _ {E X Y Z : Type 0} (p : X → Bool) (q : Y → Bool) (f : E → X) (g : E → Z) (h : Z → Y) (agree : (e : E) → p (f e) ≡ q (h (g e))) where
  first_agree : (es : List E) → position_or_len p (map f es) ≡ position_or_len q (map h (map g es))
  first_agree [] = refl
  first_agree (e ∷ es) =
      ap (λ b. cond (not b) (1 + position_or_len p (map f es)) 0) (agree e)
      ∙ ap (λ n. cond (not (q (h (g e)))) (1 + n) 0) (first_agree es)

  lengths_agree : (es : List E) → length (map f es) ≡ length (map h (map g es))
  lengths_agree [] = refl
  lengths_agree (e ∷ es) = ap suc (lengths_agree es)

  pub positions_agree : (es : List E) → position p (map f es) ≡ position q (map h (map g es))
  positions_agree es =
      ap (λ n. cond (nat_lt n (length (map f es))) (Some n) None) (first_agree es)
      ∙ ap (λ l. cond (nat_lt (position_or_len q (map h (map g es))) l) (Some (position_or_len q (map h (map g es)))) None) (lengths_agree es)

-- a list without a place for a test fails it everywhere
pub fails_where_none : {X : Type 0} (p : X → Bool) (xs : List X) → position p xs ≡ None → (k : ℕ) (d : X) → k < length xs → p (get_or xs k d) ≡ false
fails_where_none p xs none k d here =
    let past : length xs ≤ position_or_len p xs = by (nat_lt (position_or_len p xs) (length xs)) refl none in
    fails_before_first p xs k d (omega arith)
  where
    by : (b : Bool) → nat_lt (position_or_len p xs) (length xs) ≡ b → cond b (Some (position_or_len p xs)) None ≡ None → length xs ≤ position_or_len p xs
    by true e h = cc
    by false e h = grind (arith, nat_tests)

-- a name without a place is none of the names
pub absent : (names : List (List ℕ)) (name : List ℕ) → place_of names name ≡ None → (k : ℕ) (d : List ℕ) → k < length names → get_or names k d ≢ name
absent names name none k d here same =
    false≢true (sym (fails_where_none (bytes_eq name) names none k d here) ∙ (bytes_decides name (get_or names k d)).1 (sym same))
