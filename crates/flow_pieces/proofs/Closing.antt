-- The walk from the place on where it meets itself is a circuit. Taken off, it leaves a course: the arcs of the walk before that
-- place are not among its arcs, and elsewhere nothing has flow left along it that had none before.
use Rattle.std.proofs.Common.{◌≡◌, ◌≢◌, ◌⊎◌, ℕ, ◌+◌, ◌<◌, ◌≤◌, ℤ, pos, ◌-ℤ◌, neg_ℤ, ◌<ℤ◌, Bool, true, false, if◌then◌else◌, Option, Some, None, List, take, drop, length, set, sym, ap, ◌∙◌, subst, inl, inr, ⊎_elim, arith}
use mathlib.Core.Path.{fun_ext}
use Rattle.std.proofs.lemmas.Int.{ints}
use Rattle.std.proofs.lemmas.Bool.{cases_lt, cases_eq}
use Rattle.std.proofs.lemmas.List.{length-drop, length-take-le, get_or-take, get_or-drop, length-set, get_or-set_same, get_or-set_other}
use Rattle.theory.specs.declared.network.Step.{Step}
use Rattle.theory.specs.Network.{Network, «at», tail, head}
use Rattle.theory.specs.Conserved.{IsConserved}
use Rattle.theory.specs.Circuit.{step, begin_of, end_of}
use Rattle.net_incidence.specs.Graph.{Graph, bare}
use Rattle.net_incidence.specs.Incidence.{incident_steps}
use Rattle.net_incidence.specs.FlowAlong.{flow_along}
use Rattle.flow_pieces.specs.Pieces.{FlowPiece, carried, left_by, IsLeastAlong}
use Rattle.flow_pieces.specs.Course.{Course, IsTrail, EndsAt, IsRound, place_at, ArePlaces, IsCourse}
use Rattle.flow_pieces.proofs.Carrying.{ArcsDiffer, carried-off}
use Rattle.flow_pieces.proofs.Balance.{left-conserved}
use Rattle.flow_pieces.proofs.Falling.{AreNearer, left-nearer, dry-on, within-on}
use Rattle.flow_pieces.proofs.Going.{begins-differ}

-- ---- no arc twice

-- two steps along the flow over one arc begin at one node
same_begin : (x : ℕ → ℤ) (t h : ℕ → ℕ) (a b : ℕ) (f g : Bool) → a ≡ b → pos 0 <ℤ (if f then x a else (neg_ℤ (x a)))
    → pos 0 <ℤ (if g then x b else (neg_ℤ (x b))) → (if f then t a else h a) ≡ (if g then t b else h b)
same_begin x t h a b true true e f_along g_along = ap t e
same_begin x t h a b false false e f_along g_along = ap h e
same_begin x t h a b true false e f_along g_along = let same = ap x e in absurd (omega (arith, ints))
same_begin x t h a b false true e f_along g_along = let same = ap x e in absurd (omega (arith, ints))

arcs-differ : (net : Network) (rest : ℕ → ℤ) (walk : List Step) (places : List (Option ℕ)) → IsTrail net rest walk → ArePlaces net walk places
    → ArcsDiffer walk
arcs-differ net rest walk places trail placed i k before there same =
    begins-differ net walk places placed i k before there
    (same_begin rest (tail net) (head net) (step walk i).arc.0 (step walk k).arc.0 (step walk i).forward (step walk k).forward same
    (trail.along i (omega arith)) (trail.along k there))

-- ---- the circuit

pub is_round : (g : Graph) (c : Course) (place : ℕ) → IsCourse g c → place < length c.walk
    → EndsAt (bare g) c.walk (begin_of (bare g) (step c.walk place)) → IsRound (bare g) («at» c.rest) (drop place c.walk)
is_round g c place is there meets =
    let net = bare g in
    let long = length-drop place c.walk in
    let nodes = begins-differ net c.walk c.places is.placed in
    let arcs = arcs-differ net («at» c.rest) c.walk c.places is.trail is.placed in
    let old : (k : ℕ) → step (drop place c.walk) k ≡ step c.walk (place + k) = λ k. get_or-drop place c.walk k _ in
    let first : step (drop place c.walk) 0 ≡ step c.walk place = old 0 ∙ ap (step c.walk) (let e : place + 0 ≡ place = omega arith in e) in record {
      there = λ k l. let P : Step → Type 0 = λ t. t.arc.0 < length g.arcs in subst P (sym (old k)) (is.trail.there (place + k) (omega arith));
      circuit = record {
        not_empty = omega arith;
        joined = λ k l. ap (end_of net) (old k) ∙ is.trail.joined (place + k) (omega arith)
            ∙ ap (λ n. begin_of net (step c.walk n)) (let e : place + k + 1 ≡ place + (k + 1) = omega arith in e) ∙ ap (begin_of net) (sym (old (k + 1)));
        closed = λ k l. ap (end_of net) (old k) ∙ meets (place + k) (omega arith) ∙ ap (begin_of net) (sym first);
        nodes_differ = λ i k before l same. nodes (place + i) (place + k) (omega arith) (omega arith)
            (ap (begin_of net) (sym (old i)) ∙ same ∙ ap (begin_of net) (old k));
        arcs_differ = λ i k before l same. arcs (place + i) (place + k) (omega arith) (omega arith)
            (ap (λ (t : Step). t.arc.0) (sym (old i)) ∙ same ∙ ap (λ (t : Step). t.arc.0) (old k));
      };
      along = λ k l. let P : Step → Type 0 = λ t. pos 0 <ℤ flow_along («at» c.rest) t in subst P (sym (old k)) (is.trail.along (place + k) (omega arith));
    }

-- ---- what is left

-- on the walk before the place nothing was taken off
kept-arc : (walk : List Step) (place : ℕ) (weight : ℤ) (k : ℕ) → ArcsDiffer walk → k < place → place ≤ length walk
    → carried weight (drop place walk) (step walk k).arc.0 ≡ pos 0
kept-arc walk place weight k differ before within =
    let long = length-drop place walk in
    carried-off weight (drop place walk) (step walk k).arc.0
    (λ i l same. differ k (place + i) (omega arith) (omega arith)
    (sym same ∙ ap (λ (t : Step). t.arc.0) (get_or-drop place walk i _)))

same-along : (x y : ℕ → ℤ) (s : Step) → y s.arc.0 ≡ x s.arc.0 → pos 0 <ℤ flow_along x s → pos 0 <ℤ flow_along y s
same-along x y s same along = let P : ℤ → Type 0 = λ z. pos 0 <ℤ (if s.forward then z else (neg_ℤ z)) in subst P (sym same) along

shorter-trail : (net : Network) (x y : ℕ → ℤ) (walk : List Step) (place : ℕ) → IsTrail net x walk → place ≤ length walk
    → ((k : ℕ) → k < place → y (step walk k).arc.0 ≡ x (step walk k).arc.0) → IsTrail net y (take place walk)
shorter-trail net x y walk place trail within same =
    let long = length-take-le place walk within in
    let old : (k : ℕ) → k < place → step (take place walk) k ≡ step walk k = λ k l. get_or-take place walk k _ l in record {
      there = λ k l. let P : Step → Type 0 = λ t. t.arc.0 < length net.arcs in subst P (sym (old k (omega arith))) (trail.there k (omega arith));
      joined = λ k l. ap (end_of net) (old k (omega arith)) ∙ trail.joined k (omega arith) ∙ ap (begin_of net) (sym (old (k + 1) (omega arith)));
      along = λ k l. let P : Step → Type 0 = λ t. pos 0 <ℤ flow_along y t in
          subst P (sym (old k (omega arith))) (same-along x y (step walk k) (same k (omega arith)) (trail.along k (omega arith)));
    }

pub closed : (g : Graph) (c : Course) (place : ℕ) (weight : ℤ) (left : List ℤ) (places : List (Option ℕ)) → IsCourse g c → place < length c.walk
    → IsRound (bare g) («at» c.rest) (drop place c.walk) → IsLeastAlong («at» c.rest) (drop place c.walk) weight
    → length left ≡ length c.rest
    → ((j : ℕ) → «at» left j ≡ «at» c.rest j -ℤ carried weight (drop place c.walk) j)
    → ArePlaces (bare g) (take place c.walk) places
    → IsCourse g (record { rest = left; walk = take place c.walk; places = places; looked = c.looked })
closed g c place weight left places is there round weighs long takes placed =
    let net = bare g in
    let p : FlowPiece = record { weight = weight; walk = drop place c.walk } in
    let x = «at» c.rest in
    let same : «at» left ≡ left_by x p = fun_ext takes in
    let near : AreNearer x («at» left) =
    subst (AreNearer x) (sym same) (left-nearer x p round.circuit.arcs_differ round.along weighs) in
    let arcs = arcs-differ net x c.walk c.places is.trail is.placed in record {
      numbers = record {
        one_each = long ∙ is.numbers.one_each;
        within = λ k l. within-on _ (x k) («at» left k) (near k) (is.numbers.within k l);
      };
      conserved = subst (IsConserved net) (sym same) (left-conserved net x p round.there round.circuit is.conserved);
      trail = shorter-trail net x («at» left) c.walk place is.trail (omega arith)
          (λ k before. let none = kept-arc c.walk place weight k arcs before (omega arith) in let e = takes (step c.walk k).arc.0 in omega (arith, ints));
      placed = placed;
      looked = record {
        one_each = is.looked.one_each;
        dry = λ i node k l. dry-on x («at» left) (step (incident_steps g.arcs i) k) near (is.looked.dry i node k l);
      };
    }

-- ---- leaving the steps from a place on

-- the places while those of the steps from place to k are being left
pub record AreBeing (net : Network) (walk : List Step) (places : List (Option ℕ)) (place k : ℕ) : Type 0 where
  pub one_each : length places ≡ net.nodes
  pub found : (i : ℕ) → i < place → place_at places (begin_of net (step walk i)) ≡ Some i
  pub only : (i n : ℕ) → place_at places i ≡ Some n → (n < length walk) × (begin_of net (step walk n) ≡ i) × (n < place ⊎ k ≤ n)

pub left-none : (net : Network) (walk : List Step) (places : List (Option ℕ)) (place : ℕ) → ArePlaces net walk places → place ≤ length walk
    → AreBeing net walk places place place
left-none net walk places place placed within = record {
  one_each = placed.one_each;
  found = λ i l. placed.found i (omega arith);
  only = λ i n is. let old = placed.only i n is in (old.0, old.1, cases_lt n place);
}

pub left-more : (net : Network) (walk : List Step) (places : List (Option ℕ)) (place k b : ℕ)
    → ((i n : ℕ) → i < n → n < length walk → begin_of net (step walk i) ≢ begin_of net (step walk n))
    → place ≤ k → k < length walk → b ≡ begin_of net (step walk k) → b < net.nodes
    → AreBeing net walk places place k → AreBeing net walk (set places b None) place (k + 1)
left-more net walk places place k b differ after there is node being =
    let long = being.one_each in record {
      one_each = length-set places b None ∙ long;
      found = λ i l.
          let other : begin_of net (step walk i) ≢ b = (λ same. differ i k (omega arith) there (same ∙ is)) in
          get_or-set_other places b (begin_of net (step walk i)) None None other ∙ being.found i l;
      only = λ i n at_i. ⊎_elim
          (λ (here : i ≡ b).
          let none : None ≡ Some n = sym (get_or-set_same places b None None (omega arith)) ∙ ap (place_at (set places b None)) (sym here) ∙ at_i in cc)
          (λ (other : i ≢ b).
          let old = being.only i n (sym (get_or-set_other places b i None None other) ∙ at_i) in (
            old.0,
            old.1,
            ⊎_elim (λ (before : n < place). inl before)
                (λ (on : k ≤ n). ⊎_elim
                (λ (same : n ≡ k). absurd (other (sym old.1 ∙ ap (λ m. begin_of net (step walk m)) same ∙ sym is)))
                (λ (later : n ≢ k). inr (omega arith)) (cases_eq n k)) old.2,
          ))
          (cases_eq i b);
    }

pub left-all : (net : Network) (walk shorter : List Step) (places : List (Option ℕ)) (place k : ℕ) → place ≤ length walk → k ≡ length walk
    → shorter ≡ take place walk → AreBeing net walk places place k → ArePlaces net shorter places
left-all net walk shorter places place k within all is being =
    let long = length-take-le place walk within in
    let old : (i : ℕ) → i < place → step (take place walk) i ≡ step walk i = λ i l. get_or-take place walk i _ l in
    let P : List Step → Type 0 = λ w. ArePlaces net w places in
    subst P (sym is) (record {
      one_each = being.one_each;
      found = λ i l. ap (λ t. place_at places (begin_of net t)) (old i (omega arith)) ∙ being.found i (omega arith);
      only = λ i n at_i.
          let was = being.only i n at_i in
          let in_walk = was.0 in
          let before : n < place = ⊎_elim (λ (below : n < place). below) (λ (above : k ≤ n). absurd (omega arith)) was.2 in
          (omega arith, ap (begin_of net) (old n before) ∙ was.1);
    })
