-- Lists and functions of numbers with one value written over.
use Rattle.std.proofs.Common.{◌≡◌, ◌≢◌, ℕ, ◌<◌, ◌==◌, if◌then◌else◌, ℤ, pos, Option, Some, None, List, length, set, refl, eq-eqb}
use Rattle.std.proofs.lemmas.Bool.{ne_eqb}
use Rattle.std.proofs.lemmas.List.{get_or-set_same, get_or-set_other}
use Rattle.theory.specs.declared.network.Step.{Step}
use Rattle.theory.specs.Network.{«at»}
use Rattle.painted_search.specs.Path.{label_at}

pub at-set_same : (xs : List ℤ) (i : ℕ) (x : ℤ) → i < length xs → «at» (set xs i x) i ≡ x
at-set_same xs i x l = get_or-set_same xs i x (pos 0) l

pub at-set_other : (xs : List ℤ) (i k : ℕ) (x : ℤ) → k ≢ i → «at» (set xs i x) k ≡ «at» xs k
at-set_other xs i k x other = get_or-set_other xs i k x (pos 0) other

pub label-set_same : (labels : List (Option Step)) (i : ℕ) (s : Step) → i < length labels → label_at (set labels i (Some s)) i ≡ Some s
label-set_same labels i s l = get_or-set_same labels i (Some s) None l

pub label-set_other : (labels : List (Option Step)) (i k : ℕ) (s : Step) → k ≢ i → label_at (set labels i (Some s)) k ≡ label_at labels k
label-set_other labels i k s other = get_or-set_other labels i k (Some s) None other

-- the function f with the value x at i
abbrev pub put : (ℕ → ℕ) → ℕ → ℕ → ℕ → ℕ
put f i x k = if k == i then x else f k

pub put-same : (f : ℕ → ℕ) (i x k : ℕ) → k ≡ i → put f i x k ≡ x
put-same f i x k e = rw (eq-eqb k i e) refl

pub put-other : (f : ℕ → ℕ) (i x k : ℕ) → k ≢ i → put f i x k ≡ f k
put-other f i x k ne = rw (ne_eqb k i ne) refl
