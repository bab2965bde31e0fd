-- Where all bounds hold, each label's bound is tight, so stamps fall along the labels, and no node is met twice. So after fewer
-- labels than there are nodes there comes a node without one, whose potential is 0. Each label adds a span end, within the limit.
use Rattle.std.proofs.Common.{◌≡◌, ◌⊎◌, ℕ, zero, suc, ◌+◌, ◌*◌, ◌<◌, ◌≤◌, ℤ, pos, neg_ℤ, ◌+ℤ◌, ◌≤ℤ◌, Option, Some, None, List, length, inl, inr, refl, sym, ap, ◌∙◌, subst, ⊎_elim, arith}
use Rattle.std.proofs.lemmas.Bool.{cases_lt}
use Rattle.std.proofs.lemmas.Int.{ints}
use Rattle.theory.specs.declared.ext.Ext.{Ext}
use Rattle.theory.specs.declared.ext.Ext.TheVariants.{MinusInf, At, PlusInf}
use Rattle.theory.specs.declared.network.Step.{Step}
use Rattle.theory.specs.Ends.{IsFinite, whole, negated, IsAtLeast, IsAtMost}
use Rattle.theory.specs.Limits.{number_most, IsWithin}
use Rattle.theory.specs.Span.{span_low, span_high, InSpan}
use Rattle.theory.specs.Network.{Network, «at», curve, tail, head}
use Rattle.theory.specs.Conserved.{tension}
use Rattle.theory.specs.Feasible.{IsFeasiblePotential}
use Rattle.net_incidence.specs.FlowAlong.{AreSmall}
use Rattle.painted_search.specs.Room.{Room}
use Rattle.painted_search.specs.Path.{label_at}
use Rattle.feasible_tension.specs.Back.{back}
use Rattle.feasible_tension.specs.Bounds.{IsHeld}
use Rattle.feasible_tension.specs.Kept.{IsShifted}
use Rattle.feasible_tension.specs.Relaxing.{IsRelaxing}
use Rattle.feasible_tension.proofs.Bounded.{IsBounded, span_end-within}
use Rattle.feasible_tension.proofs.Lowering.{step-held}
use Rattle.feasible_tension.proofs.Rounds.{parent-labelled, small-between}
use Rattle.feasible_tension.proofs.Pigeons.{differ-few}
use Rattle.feasible_tension.proofs.LabelsComeRound.{back-there}

abbrev AllHeld : Network → Room → Type 0
AllHeld net w = (j : ℕ) → j < length net.arcs → IsHeld net w.potentials j

-- along so many labels stamps fall, and potentials rise by the limit at most
record IsFalling (net : Network) (w : Room) (stamp : ℕ → ℕ) (i count : ℕ) : Type 0 where
  falls : (t : ℕ) → t < count → stamp (back net w.labels (suc t) i) < stamp (back net w.labels t i)
  near : «at» w.potentials (back net w.labels count i) ≤ℤ («at» w.potentials i +ℤ pos (count * number_most))

abbrev IsNear : Room → ℕ → ℕ → Type 0
IsNear w i count = neg_ℤ (pos (count * number_most)) ≤ℤ «at» w.potentials i

falls-more : (net : Network) (r i count : ℕ) (w : Room) (s : Step) → IsBounded net → (relaxing : IsRelaxing net r 0 None w) → AllHeld net w
    → IsFalling net w relaxing.stamp i count → label_at w.labels (back net w.labels count i) ≡ Some s
    → IsFalling net w relaxing.stamp i (suc count)
falls-more net r i count w s good relaxing held falling is =
    let x = back net w.labels count i in
    let label = relaxing.labels x s is in
    let begins = parent-labelled net w.labels x s is in
    let bound = step-held net w.potentials s (held s.arc.0 label.there) label.finite in
    let at_end = ap («at» w.potentials) label.ends in
    let least = label.least in
    let tight = label.tight (omega (arith, ints)) in
    let len = (span_end-within net s good label.there).0 in
    let near = falling.near in
    let u_begin = ap («at» w.potentials) begins in
    let stamp_begin = ap relaxing.stamp begins in
    let count_more : suc count * number_most ≡ count * number_most + number_most = omega arith in
    record {
      falls = λ t l.
          ⊎_elim
          (λ (below : t < count). falling.falls t below)
          (λ (above : count ≤ t).
          let e : count ≡ t = omega arith in
          let here : relaxing.stamp (back net w.labels (suc count) i) < relaxing.stamp (back net w.labels count i) = omega arith in
          subst (λ t. relaxing.stamp (back net w.labels (suc t) i) < relaxing.stamp (back net w.labels t i)) e here)
          (cases_lt t count);
      near = omega (arith, ints);
    }

falling-more : (net : Network) (r i count : ℕ) (w : Room) (label : Option Step) → IsBounded net → (relaxing : IsRelaxing net r 0 None w) → AllHeld net w
    → IsFalling net w relaxing.stamp i count → label ≡ label_at w.labels (back net w.labels count i)
    → IsNear w i (suc count) ⊎ IsFalling net w relaxing.stamp i (suc count)
falling-more net r i count w None good relaxing held falling is =
    let root = relaxing.unlabelled (back net w.labels count i) (sym is) in
    let near = falling.near in
    let count_more : suc count * number_most ≡ count * number_most + number_most = omega arith in
    inl (omega (arith, ints))
falling-more net r i count w (Some s) good relaxing held falling is = inr (falls-more net r i count w s good relaxing held falling (sym is))

falling : (net : Network) (r i : ℕ) (w : Room) → IsBounded net → (relaxing : IsRelaxing net r 0 None w) → AllHeld net w → (count : ℕ)
    → IsNear w i count ⊎ IsFalling net w relaxing.stamp i count
falling net r i w good relaxing held zero = inr (record { falls = λ t l. absurd (omega arith); near = omega (arith, ints) })
falling net r i w good relaxing held (suc count) =
    ⊎_elim
    (λ (near : IsNear w i count).
    let count_more : suc count * number_most ≡ count * number_most + number_most = omega arith in
    inl (omega (arith, ints)))
    (λ (falls : IsFalling net w relaxing.stamp i count).
    falling-more net r i count w (label_at w.labels (back net w.labels count i)) good relaxing held falls refl)
    (falling net r i w good relaxing held count)

falls-far : (stamp : ℕ → ℕ) (count : ℕ) → ((t : ℕ) → t < count → stamp (suc t) < stamp t) → (a b : ℕ) → a < b → b ≤ count
    → stamp b < stamp a
falls-far stamp count falls a zero before l = absurd (omega arith)
falls-far stamp count falls a (suc b) before l =
    let here = falls b (omega arith) in
    ⊎_elim
    (λ (further : a < b). let far = falls-far stamp count falls a b further (omega arith) in omega arith)
    (λ (near : b ≤ a). let e : b ≡ a = omega arith in subst (λ a. stamp (suc b) < stamp a) e here)
    (cases_lt a b)

pub fallen-least : (net : Network) (r i : ℕ) (w : Room) → IsBounded net → IsRelaxing net r 0 None w → AllHeld net w → i < net.nodes
    → neg_ℤ (pos (net.nodes * number_most)) ≤ℤ «at» w.potentials i
fallen-least net r i w good relaxing held there =
    let n = net.nodes in
    ⊎_elim
    (λ (near : IsNear w i n). near)
    (λ (falls : IsFalling net w relaxing.stamp i n).
    let far = falls-far (λ t. relaxing.stamp (back net w.labels t i)) n falls.falls in
    let few = differ-few (n + 1) n (λ t. back net w.labels t i)
    (λ a b before l same.
    let less = far a b before (omega arith) in
    let same_stamp = ap relaxing.stamp same in
    omega arith)
    (λ t l. back-there net r 0 i None w good relaxing there t) in
    absurd (omega arith))
    (falling net r i w good relaxing held n)

pub fallen-small : (net : Network) (r : ℕ) (w : Room) → IsBounded net → IsRelaxing net r 0 None w → AllHeld net w → w.nodes ≡ net.nodes
    → AreSmall w.potentials
fallen-small net r w good relaxing held nodes =
    let few = w.sized.few_nodes in
    small-between w.potentials (net.nodes * number_most) (omega arith) relaxing.high
    (λ i l. fallen-least net r i w good relaxing held (omega (arith, w.sized.one_potential_each)))

-- ---- the potential from node 0 on

at_most_of : (e : Ext) (x : ℤ) → (IsFinite e → x ≤ℤ whole e) → IsAtMost 1 e x
at_most_of MinusInf x most = tt
at_most_of (At a) x most = let l = most refl in omega (arith, ints)
at_most_of PlusInf x most = tt

at_least_of : (e : Ext) (x : ℤ) → (IsFinite (negated e) → neg_ℤ x ≤ℤ whole (negated e)) → IsAtLeast 1 e x
at_least_of MinusInf x most = tt
at_least_of (At a) x most = let l = most refl in omega (arith, ints)
at_least_of PlusInf x most = tt

span_held : (net : Network) (u : List ℤ) (j : ℕ) → IsHeld net u j → InSpan 1 (curve net j).items (tension net («at» u) j)
span_held net u j held = record {
  least = at_least_of (span_low (curve net j).items) _ (λ finite. let bound = held.backward finite in omega (arith, ints));
  most = at_most_of (span_high (curve net j).items) _ (λ finite. let bound = held.forward finite in omega (arith, ints));
}

pub record IsFound (net : Network) (w : Room) : Type 0 where
  pub potential : IsFeasiblePotential 1 net w.potentials
  pub within : (i : ℕ) → i < net.nodes → IsWithin (net.nodes * number_most) («at» w.potentials i)

pub fallen-found : (net : Network) (r : ℕ) (v w : Room) → IsBounded net → IsRelaxing net r 0 None v → AllHeld net v → v.nodes ≡ net.nodes
    → w.nodes ≡ v.nodes → IsShifted v w → IsFound net w
fallen-found net r v w good relaxing held nodes same shifted =
    let some : 0 < net.nodes = omega (arith, v.sized.some_node) in
    record {
      potential = record {
        one_each = w.sized.one_potential_each ∙ same ∙ nodes;
        ground = (let e = shifted 0 (omega arith) in omega (arith, ints));
        in_spans = λ j l.
            let at_tail = shifted (tail net j) (let t = good.tails j l in omega arith) in
            let at_head = shifted (head net j) (let t = good.heads j l in omega arith) in
            let tension_is : tension net («at» v.potentials) j ≡ tension net («at» w.potentials) j = omega (arith, ints) in
            subst (InSpan 1 (curve net j).items) tension_is (span_held net v.potentials j (held j l));
      };
      within = λ i l.
          let here = shifted i (omega arith) in
          let low = fallen-least net r i v good relaxing held l in
          let low_ground = fallen-least net r 0 v good relaxing held some in
          let high = relaxing.high i in
          let high_ground = relaxing.high 0 in
          (omega (arith, ints), omega (arith, ints));
    }
