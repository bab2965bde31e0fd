-- Potential 0 in a new room.
use Rattle.std.proofs.Common.{◌≡◌, ℕ, ◌<◌, ℤ, pos, List, length, sym, ap, ◌∙◌, subst, arith}
use Rattle.std.proofs.lemmas.Int.{ints}
use Rattle.std.proofs.lemmas.List.{length-replicate}
use Rattle.theory.specs.declared.ext.Ext.{Ext}
use Rattle.theory.specs.Span.{InSpan}
use Rattle.theory.specs.Network.{«at», tail, head, list_at}
use Rattle.theory.specs.Conserved.{tension}
use Rattle.theory.specs.Feasible.{IsFeasiblePotential}
use Rattle.net_incidence.specs.Graph.{Graph, bare}
use Rattle.painted_search.specs.Room.{Room, IsEmpty}
use Rattle.net_incidence.specs.WithoutBases.{without_bases}
use Rattle.net_incidence.proofs.WithoutBases.{without_bases-items}
use Rattle.kilter_solver.specs.Clamping.{AreNear}
use Rattle.kilter_solver.proofs.Spreading.{replicate-at}

module _ (g : Graph) where
  zero_at : (w : Room) (n m : ℕ) → IsEmpty n m w → (i : ℕ) → «at» w.potentials i ≡ pos 0
  zero_at w n m empty i = ap (λ (u : List ℤ). «at» u i) empty.potentials ∙ replicate-at n i (pos 0)

  pub zero-near : (w : Room) (n m : ℕ) → IsEmpty n m w → AreNear g.nodes w.potentials
  zero-near w n m empty = record { within = λ i l. (let e = zero_at w n m empty i in (omega (arith, ints), omega (arith, ints))) }

  pub zero-feasible : (lists : List (List Ext)) (w : Room) (n m : ℕ) → IsEmpty n m w → n ≡ g.nodes
      → ((j : ℕ) → j < length g.arcs → InSpan 1 (list_at lists j) (pos 0)) → IsFeasiblePotential 1 (without_bases g lists) w.potentials
  zero-feasible lists w n m empty nodes level = record {
    one_each = ap length empty.potentials ∙ length-replicate n (pos 0) ∙ nodes;
    ground = zero_at w n m empty 0;
    in_spans = λ j l.
        let none : pos 0 ≡ tension (bare g) («at» w.potentials) j =
        (let a = zero_at w n m empty (tail (bare g) j) in let b = zero_at w n m empty (head (bare g) j) in omega (arith, ints)) in
        subst (λ (items : List Ext). InSpan 1 items (tension (bare g) («at» w.potentials) j)) (sym (without_bases-items g lists j))
        (subst (λ (z : ℤ). InSpan 1 (list_at lists j) z) none (level j l));
  }
