-- Sums over the nodes of a set: one more node adds its own term.
use Rattle.std.proofs.Common.{◌≡◌, ℕ, ◌+◌, ◌<◌, ◌≤◌, Bool, true, false, IsTrue, if◌then◌else◌, List, length, set, refl, ap, arith}
use Rattle.theory.specs.Cut.{holds}
use Rattle.theory.proofs.Counting.{total_below-order, total_below-ones, total_below-change, total_below-term}
use Rattle.theory.specs.Sums.{total_below}
use Rattle.theory.proofs.Marks.{holds-set_same, holds-set_other}
use Rattle.kilter_solver.specs.Marks.{marked, marked_total, count_of}

marked-in : (f : ℕ → ℕ) (side : List Bool) (i : ℕ) → IsTrue (holds side i) → marked f side i ≡ f i
marked-in f side i h = rw h refl

marked-out : (f : ℕ → ℕ) (side : List Bool) (i : ℕ) → holds side i ≡ false → marked f side i ≡ 0
marked-out f side i h = rw h refl

pub marked_total-set : (n : ℕ) (f : ℕ → ℕ) (side : List Bool) (i : ℕ) → i < n → i < length side → holds side i ≡ false
    → marked_total n f (set side i true) ≡ marked_total n f side + f i
marked_total-set n f side i l there out =
    let change = total_below-change n i (marked f side) (marked f (set side i true)) l
    (λ k h other. ap (λ (b : Bool). if b then f k else 0) (holds-set_other side i k other)) in
    let before = marked-out f side i out in
    let after = marked-in f (set side i true) i (holds-set_same side i there) in
    omega arith

marked-most : (f : ℕ → ℕ) (b : Bool) (i : ℕ) → (if b then f i else 0) ≤ f i
marked-most f true i = omega arith
marked-most f false i = omega arith

pub marked_total-most : (n : ℕ) (f : ℕ → ℕ) (side : List Bool) → marked_total n f side ≤ total_below n f
marked_total-most n f side = total_below-order n (marked f side) f (λ k l. marked-most f (holds side k) k)

pub count-most : (n : ℕ) (side : List Bool) → count_of n side ≤ n
count-most n side =
    let most = marked_total-most n (λ i. 1) side in
    let ones = total_below-ones n in
    omega arith

pub marked_total-term : (n : ℕ) (f : ℕ → ℕ) (side : List Bool) (i : ℕ) → i < n → IsTrue (holds side i) → f i ≤ marked_total n f side
marked_total-term n f side i l h =
    let term = total_below-term n i (marked f side) l in
    let here = marked-in f side i h in
    omega arith

pub count-some : (n : ℕ) (side : List Bool) (i : ℕ) → i < n → IsTrue (holds side i) → 1 ≤ count_of n side
count-some n side i l h = marked_total-term n (λ k. 1) side i l h
