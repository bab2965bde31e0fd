-- Potentials lifted one after the other.
use Rattle.std.proofs.Common.{◌≡◌, ℕ, ◌+◌, ◌<◌, ◌≤◌, ℤ, pos, ◌∙◌, subst, get_or-set_same, get_or-set_other, ⊎_elim, arith}
use Rattle.std.proofs.lemmas.Bool.{cases_lt}
use Rattle.theory.specs.Network.{«at»}
use Rattle.painted_search.specs.Room.{Room}
use Rattle.painted_search.specs.Writes.{with_potential}
use Rattle.path_cut.specs.Lifting.{lifted}
use Rattle.path_cut.specs.Climbing.{IsSameButPotentials}

-- v is the room as it was, w the room where the first potentials are lifted
pub record IsLifting (v w : Room) (t count : ℕ) : Type 0 where
  pub lifts : (k : ℕ) → k < count → «at» w.potentials k ≡ lifted t v.reached v.potentials k
  pub still : (k : ℕ) → count ≤ k → «at» w.potentials k ≡ «at» v.potentials k
  pub same : IsSameButPotentials v w

pub lifting-more : (v w : Room) (t i : ℕ) (x : ℤ) → IsLifting v w t i → i < w.nodes → x ≡ lifted t v.reached v.potentials i
    → IsLifting v (with_potential w i x) t (i + 1)
lifting-more v w t i x before there is = record {
  lifts = λ k l.
      ⊎_elim
      (λ (below : k < i). get_or-set_other w.potentials i k x (pos 0) (λ same. omega arith) ∙ before.lifts k below)
      (λ (above : i ≤ k).
      let e : i ≡ k = omega arith in
      let here = get_or-set_same w.potentials i x (pos 0) (omega (arith, w.sized.one_potential_each)) in
      subst (λ k. «at» (with_potential w i x).potentials k ≡ lifted t v.reached v.potentials k) e (here ∙ is))
      (cases_lt k i);
  still = λ k l. get_or-set_other w.potentials i k x (pos 0) (λ same. omega arith) ∙ before.still k (omega arith);
  same = record { nodes = before.same.nodes; arcs = before.same.arcs; flows = before.same.flows; reached = before.same.reached };
}
