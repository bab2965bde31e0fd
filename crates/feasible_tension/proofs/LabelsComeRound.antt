-- Back along the labels for as many steps as there are nodes: more nodes than there are, so two of them are the same, and from
-- there on the way is a circuit. The node at its end is on it: with it the way comes again after as many labels as lie between.
use Rattle.std.proofs.Common.{◌≡◌, ℕ, zero, suc, ◌+◌, ◌-◌, ◌<◌, Option, Some, None, List, refl, sym, ap, ◌∙◌, subst, arith}
use Rattle.theory.specs.declared.network.NodeId.{NodeId}
use Rattle.theory.specs.declared.network.Step.{Step}
use Rattle.theory.specs.Network.{Network}
use Rattle.painted_search.specs.Room.{Room}
use Rattle.painted_search.specs.Path.{label_at}
use Rattle.feasible_tension.specs.Back.{begin_or, parent, back, IsLabelled, IsDeep, IsOnCircuit}
use Rattle.feasible_tension.specs.Relaxing.{IsRelaxing}
use Rattle.feasible_tension.proofs.Bounded.{IsBounded, begin-there}
use Rattle.feasible_tension.proofs.Pigeons.{repeated}

pub back-add : (net : Network) (labels : List (Option Step)) (a b i : ℕ) → back net labels (a + b) i ≡ back net labels a (back net labels b i)
back-add net labels zero b i = let e : 0 + b ≡ b = omega arith in ap (λ n. back net labels n i) e
back-add net labels (suc a) b i =
    let e : suc a + b ≡ suc (a + b) = omega arith in
    ap (λ n. back net labels n i) e ∙ ap (parent net labels) (back-add net labels a b i)

-- the same by an equation of counts
pub back-sum : (net : Network) (labels : List (Option Step)) (a b c i : ℕ) → a + b ≡ c → back net labels a (back net labels b i) ≡ back net labels c i
back-sum net labels a b c i e = sym (back-add net labels a b i) ∙ ap (λ n. back net labels n i) e

begin_there : (net : Network) (r k i : ℕ) (c : Option NodeId) (w : Room) (label : Option Step) → IsBounded net → IsRelaxing net r k c w → i < net.nodes
    → label ≡ label_at w.labels i → begin_or net i label < net.nodes
begin_there net r k i c w None good relaxing there is = there
begin_there net r k i c w (Some s) good relaxing there is = begin-there net s good (relaxing.labels i s (sym is)).there

pub back-there : (net : Network) (r k i : ℕ) (c : Option NodeId) (w : Room) → IsBounded net → IsRelaxing net r k c w → i < net.nodes
    → (count : ℕ) → back net w.labels count i < net.nodes
back-there net r k i c w good relaxing there zero = there
back-there net r k i c w good relaxing there (suc count) =
    begin_there net r k (back net w.labels count i) c w (label_at w.labels (back net w.labels count i)) good relaxing
    (back-there net r k i c w good relaxing there count) refl

pub far-on_circuit : (net : Network) (r k i : ℕ) (c : Option NodeId) (w : Room) → IsBounded net → IsRelaxing net r k c w
    → IsDeep net w.labels net.nodes i → IsOnCircuit net w.labels (back net w.labels net.nodes i)
far-on_circuit net r k i c w good relaxing deep =
    let n = net.nodes in
    let way = λ (t : ℕ). back net w.labels t i in
    let found = repeated (n + 1) n way (λ t l. back-there net r k i c w good relaxing deep.there t) (omega arith) in
    let a = found.first in
    let b = found.second in
    let before = found.before in
    let within = found.within in
    let rest = n - b in
    let period = b - a in
    -- n labels back, and as many as that less the period, lead to the same node
    let again : way n ≡ way (rest + a) =
    sym (back-sum net w.labels rest b n i (omega arith)) ∙ ap (back net w.labels rest) (sym found.same) ∙ back-sum net w.labels rest a (rest + a) i refl in
    record {
      period = period;
      some = omega arith;
      comes_again = ap (back net w.labels period) again ∙ back-sum net w.labels period (rest + a) n i (omega arith);
      deep = record {
        there = back-there net r k i c w good relaxing deep.there n;
        labelled = λ t l.
            let same : back net w.labels t (way n) ≡ way (t + (rest + a)) =
            ap (back net w.labels t) again ∙ back-sum net w.labels t (rest + a) (t + (rest + a)) i refl in
            subst (IsLabelled w.labels) (sym same) (deep.labelled (t + (rest + a)) (omega arith));
      };
    }
