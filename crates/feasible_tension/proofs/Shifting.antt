-- All potentials less that of node 0, one after the other.
use Rattle.std.proofs.Common.{◌≡◌, ℕ, ◌+◌, ◌<◌, ◌≤◌, ℤ, ◌-ℤ◌, sym, ap, ◌∙◌, subst, ⊎_elim, arith}
use Rattle.std.proofs.lemmas.Bool.{cases_lt}
use Rattle.theory.specs.Network.{«at»}
use Rattle.painted_search.specs.Room.{Room}
use Rattle.painted_search.specs.Writes.{with_potential}
use Rattle.feasible_tension.specs.Kept.{IsKept}
use Rattle.feasible_tension.proofs.Writes.{at-set_same, at-set_other}

-- v is the room as it was, w the room where the first potentials are shifted
pub record IsShifting (v w : Room) (count : ℕ) : Type 0 where
  pub shifted : (k : ℕ) → k < count → «at» w.potentials k ≡ («at» v.potentials k -ℤ «at» v.potentials 0)
  pub others : (k : ℕ) → count ≤ k → «at» w.potentials k ≡ «at» v.potentials k
  pub kept : IsKept v w

shifting_put : (v w : Room) (i : ℕ) → IsShifting v w i → i < w.nodes
    → IsShifting v (with_potential w i («at» v.potentials i -ℤ «at» v.potentials 0)) (i + 1)
shifting_put v w i before there =
    let x = «at» v.potentials i -ℤ «at» v.potentials 0 in
    record {
      shifted = λ k l.
          ⊎_elim
          (λ (below : k < i). at-set_other w.potentials i k x (λ same. omega arith) ∙ before.shifted k below)
          (λ (above : i ≤ k).
          let e : i ≡ k = omega arith in
          let here = at-set_same w.potentials i x (omega (arith, w.sized.one_potential_each)) in
          subst (λ k. «at» (with_potential w i x).potentials k ≡ («at» v.potentials k -ℤ «at» v.potentials 0)) e here)
          (cases_lt k i);
      others = λ k l. at-set_other w.potentials i k x (λ same. omega arith) ∙ before.others k (omega arith);
      kept = record { nodes = before.kept.nodes; arcs = before.kept.arcs; flows = before.kept.flows };
    }

pub shifting-more : (v w new : Room) (i : ℕ) (x : ℤ) → IsShifting v w i → i < w.nodes → new ≡ with_potential w i x
    → x ≡ («at» v.potentials i -ℤ «at» v.potentials 0) → IsShifting v new (i + 1)
shifting-more v w new i x before there made is =
    subst (λ new. IsShifting v new (i + 1)) (sym (made ∙ ap (with_potential w i) is)) (shifting_put v w i before there)
