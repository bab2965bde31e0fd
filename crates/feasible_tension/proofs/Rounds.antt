-- Where rounds begin and end. A whole round has seen every arc, so each was seen within the round before the next one. A node that
-- a round lowered is stamped within this round, and each label leads to a node that is stamped at most a round earlier; so there
-- is a label for each round, and one more.
use Rattle.std.proofs.Common.{◌≡◌, ℕ, zero, suc, ◌+◌, ◌*◌, ◌^◌, ◌<◌, ◌≤◌, ℤ, pos, neg_ℤ, ◌≤ℤ◌, Option, Some, None, IfSome, List, length, sym, ap, ◌∙◌, arith}
use Rattle.std.proofs.lemmas.Int.{ints}
use Rattle.std.proofs.Math.Nat.{mul-le-mul_right}
use Rattle.theory.specs.declared.network.NodeId.{NodeId}
use Rattle.theory.specs.declared.network.Step.{Step}
use Rattle.theory.specs.Limits.{number_most, grounded_nodes_most}
use Rattle.net_incidence.specs.WithoutBases.{passable_arcs_most}
use Rattle.theory.specs.Network.{Network, «at»}
use Rattle.theory.specs.Circuit.{begin_of}
use Rattle.net_incidence.specs.FlowAlong.{AreSmall}
use Rattle.painted_search.specs.Room.{Room}
use Rattle.painted_search.specs.Path.{label_at}
use Rattle.feasible_tension.specs.Back.{begin_or, parent, back, IsDeep}
use Rattle.feasible_tension.specs.Bounds.{IsHeld}
use Rattle.feasible_tension.specs.Relaxing.{IsRelaxing}
use Rattle.feasible_tension.proofs.Lowering.{place-there}

never_some : (s : Step) (o : Option Step) → o ≡ None → o ≡ Some s → ⊥
never_some s o none some = let both : Some s ≡ None = sym some ∙ none in cc

pub relaxing-start : (net : Network) (w : Room) → ((i : ℕ) → «at» w.potentials i ≡ pos 0) → ((i : ℕ) → label_at w.labels i ≡ None)
    → IsRelaxing net 0 0 None w
relaxing-start net w zeros none = record {
  stamp = λ i. 0;
  seen = λ j. 0;
  labels = λ i s is. absurd (never_some s (label_at w.labels i) (none i) is);
  stamped = λ i some. absurd (omega arith);
  unlabelled = λ i label. zeros i;
  past = λ i. omega arith;
  seen_past = λ j. omega arith;
  seen_late = λ j there. omega arith;
  seen_now = λ j there passed. absurd (omega arith);
  bounds = λ s there owed. absurd (omega arith);
  high = λ i. let at_zero = zeros i in omega (arith, ints);
  low = λ i. let at_zero = zeros i in omega (arith, ints);
  held = λ none j there passed. absurd (omega arith);
  late = tt;
  there = tt;
}

pub relaxing-next : (net : Network) (r : ℕ) (c : Option NodeId) (w : Room) → IsRelaxing net r (length net.arcs) c w
    → IsRelaxing net (r + 1) 0 None w
relaxing-next net r c w before =
    let m = length net.arcs in
    let clock : (r + 1) * m ≡ r * m + m = omega arith in
    record {
      stamp = before.stamp;
      seen = before.seen;
      labels = before.labels;
      stamped = before.stamped;
      unlabelled = before.unlabelled;
      past = λ i. let old = before.past i in omega arith;
      seen_past = λ j. let old = before.seen_past j in omega arith;
      seen_late = λ j there. let old = before.seen_now j there (place-there r m j there) in omega arith;
      seen_now = λ j there passed. absurd (omega arith);
      bounds = before.bounds;
      high = before.high;
      low = λ i. let old = before.low i in rw clock (let e : r * m + m + 0 ≡ r * m + m = omega arith in rw e old);
      held = λ none j there passed. absurd (omega arith);
      late = tt;
      there = tt;
    }

pub all-held : (net : Network) (r : ℕ) (c : Option NodeId) (w : Room) → IsRelaxing net r (length net.arcs) c w → c ≡ None
    → (j : ℕ) → j < length net.arcs → IsHeld net w.potentials j
all-held net r c w before none j there = before.held none j there (place-there r (length net.arcs) j there)

-- ---- numbers stay small

pub clock-most : (r k m n : ℕ) → r < n → k < m → n ≤ grounded_nodes_most → m ≤ passable_arcs_most → r * m + k ≤ 10 ^ 9
clock-most r k m n round turn few_nodes few_arcs =
    let rounds = mul-le-mul_right {m = suc r} {n = n} m (omega arith) in
    let nodes = mul-le-mul_right {m = n} {n = grounded_nodes_most} m few_nodes in
    omega arith

pub small-between : (u : List ℤ) (most : ℕ) → most ≤ 10 ^ 18 → ((i : ℕ) → «at» u i ≤ℤ pos 0)
    → ((i : ℕ) → i < length u → neg_ℤ (pos most) ≤ℤ «at» u i)
    → AreSmall u
small-between u most few high low = record {
  low = λ i l. let least = low i l in omega (arith, ints);
  high = λ i l. let most = high i in omega (arith, ints);
}

pub relaxing-small : (net : Network) (r k n : ℕ) (c : Option NodeId) (w : Room) → IsRelaxing net r k c w → r < n → k < length net.arcs
    → n ≤ grounded_nodes_most → length net.arcs ≤ passable_arcs_most → AreSmall w.potentials
relaxing-small net r k n c w before round turn few_nodes few_arcs =
    let clock = clock-most r k (length net.arcs) n round turn few_nodes few_arcs in
    small-between w.potentials ((r * length net.arcs + k) * number_most) (omega arith) before.high (λ i l. before.low i)

-- ---- a label for each round

pub parent-labelled : (net : Network) (labels : List (Option Step)) (i : ℕ) (s : Step) → label_at labels i ≡ Some s
    → parent net labels i ≡ begin_of net s
parent-labelled net labels i s is = ap (begin_or net i) is

stamp-back : (net : Network) (r : ℕ) (w : Room) (node : NodeId) → (before : IsRelaxing net r (length net.arcs) (Some node) w)
    → (k b : ℕ) → b + k ≡ r → b * length net.arcs < before.stamp (back net w.labels k node.0)
stamp-back net r w node before zero b e =
    let same : b ≡ r = omega arith in
    rw same before.late
stamp-back net r w node before (suc k) b e =
    let here = stamp-back net r w node before k (suc b) (omega arith) in
    let x = back net w.labels k node.0 in
    let label = before.stamped x (omega arith) in
    let earlier = (before.labels x label.pace label.is).late b here in
    rw (parent-labelled net w.labels x label.pace label.is) earlier

pub changed-deep : (net : Network) (r : ℕ) (w : Room) (node : NodeId) → IsRelaxing net r (length net.arcs) (Some node) w
    → IsDeep net w.labels (r + 1) node.0
changed-deep net r w node before = record {
  there = before.there;
  labelled = λ k l.
      let rest : (b : ℕ) × (b + k ≡ r) = rest_of k r (omega arith) in
      let late = stamp-back net r w node before k rest.0 rest.1 in
      before.stamped (back net w.labels k node.0) (omega arith);
} where
  rest_of : (k r : ℕ) → k ≤ r → (b : ℕ) × (b + k ≡ r)
  rest_of zero r l = (r, omega arith)
  rest_of (suc k) zero l = absurd (omega arith)
  rest_of (suc k) (suc r) l = let rest = rest_of k r (omega arith) in (rest.0, (let e = rest.1 in omega arith))

-- a round that lowered a node, as its answer says it
pub deep-if_some : (net : Network) (r : ℕ) (c : Option NodeId) (w : Room) → IsRelaxing net r (length net.arcs) c w
    → IfSome c (λ node. IsDeep net w.labels (r + 1) node.0)
deep-if_some net r None w before = tt
deep-if_some net r (Some node) w before = changed-deep net r w node before
