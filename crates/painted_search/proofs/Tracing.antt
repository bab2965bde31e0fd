-- Back along the labels. The steps that were found, last first, are a branch from the node at hand to the goal. That node's label
-- is the step of the tree that reached it, and begins at a node with a smaller number: put in front, it makes the branch longer
-- by one. The root has no label, and is the only reached node without one.
use Rattle.std.proofs.Common.{◌≡◌, ◌≢◌, ℕ, zero, suc, ◌<◌, ◌≤◌, Option, Some, None, List, [], ◌∷◌, length, reverse, refl, sym, ap, ◌∙◌, subst, arith}
use Rattle.std.proofs.lemmas.List.{reverse-append, length-reverse}
use Rattle.std.proofs.lemmas.Option.{none-some, same_Some}
use Rattle.theory.specs.declared.colour.Colour.{Colour}
use Rattle.theory.specs.declared.network.Step.{Step}
use Rattle.theory.specs.Network.{Network}
use Rattle.theory.specs.Circuit.{step, begin_of}
use Rattle.painted_search.specs.Room.{Room}
use Rattle.painted_search.specs.Writes.{with_step}
use Rattle.painted_search.specs.Reaching.{with_turned_walk}
use Rattle.painted_search.specs.Path.{IsFreePath, LeadAlong, label_at}
use Rattle.painted_search.specs.Tree.{node_at, IsTree, IsSameButWalk}
use Rattle.painted_search.proofs.Branch.{IsBranch, branch-length, branch-path, branch-labels}

same-made : (v w new : Room) → IsSameButWalk v w → IsSameButWalk w new → IsSameButWalk v new
same-made v w new first second = record {
  nodes = second.nodes ∙ first.nodes;
  arcs = second.arcs ∙ first.arcs;
  flows = second.flows ∙ first.flows;
  potentials = second.potentials ∙ first.potentials;
  reached = second.reached ∙ first.reached;
  labels = second.labels ∙ first.labels;
}

same-with_step : (w : Room) (s : Step) (room : length w.walk < w.nodes) → IsSameButWalk w (with_step w s room)
same-with_step w s room =
    record { nodes = refl; arcs = refl; flows = refl; potentials = refl; reached = refl; labels = refl }

same-turned : (w : Room) → IsSameButWalk w (with_turned_walk w)
same-turned w = record { nodes = refl; arcs = refl; flows = refl; potentials = refl; reached = refl; labels = refl }

-- v is the room with the tree, w the room with the steps that were found so far
pub record IsTracing (net : Network) (from to : ℕ) (v : Room) (node : ℕ) (w : Room) : Type 0 where
  pub number : ℕ
  pub within : number ≤ length v.walk
  pub node_is : node_at net from v.walk number ≡ node
  pub branch : IsBranch net from v.walk to number (reverse w.walk)
  pub same : IsSameButWalk v w

-- ---- the label of a node of the tree

pub record Reaching (net : Network) (from : ℕ) (tree : List Step) (number : ℕ) (s : Step) : Type 0 where
  pub place : ℕ
  pub next : number ≡ suc place
  pub is : step tree place ≡ s

reaching : (net : Network) (colours : ℕ → Colour) (from : ℕ) (v : Room) (number : ℕ) (s : Step) → IsTree net colours from v
    → number ≤ length v.walk → label_at v.labels (node_at net from v.walk number) ≡ Some s → Reaching net from v.walk number s
reaching net colours from v zero s tree within label = absurd (none-some s (sym tree.root_unlabelled ∙ label))
reaching net colours from v (suc k) s tree within label = record {
  place = k;
  next = refl;
  is = same_Some _ _ (sym (tree.labelled k (omega arith)) ∙ label);
}

root_reached : (net : Network) (colours : ℕ → Colour) (from : ℕ) (v : Room) (number : ℕ) → IsTree net colours from v
    → number ≤ length v.walk → label_at v.labels (node_at net from v.walk number) ≡ None → number ≡ 0
root_reached net colours from v zero tree within label = refl
root_reached net colours from v (suc k) tree within label = absurd (none-some _ (sym label ∙ tree.labelled k (omega arith)))

label-same : (net : Network) (from to : ℕ) (v w : Room) (node : ℕ) (label : Option Step) → (tracing : IsTracing net from to v node w)
    → label ≡ label_at w.labels node → label_at v.labels (node_at net from v.walk tracing.number) ≡ label
label-same net from to v w node label tracing is =
    ap (λ labels. label_at labels (node_at net from v.walk tracing.number)) (sym tracing.same.labels)
    ∙ ap (label_at w.labels) tracing.node_is
    ∙ sym is

-- ---- one step back

pub record IsStepBack (net : Network) (w : Room) (s : Step) : Type 0 where
  pub there : s.arc.0 < length net.arcs
  pub room : length w.walk < w.nodes

pub tracing-room : (net : Network) (colours : ℕ → Colour) (from to : ℕ) (v w : Room) (node : ℕ) (s : Step) → IsTree net colours from v
    → IsTracing net from to v node w → Some s ≡ label_at w.labels node → IsStepBack net w s
tracing-room net colours from to v w node s tree tracing label =
    let found = reaching net colours from v tracing.number s tree tracing.within (label-same net from to v w node (Some s) tracing label) in
    let long = branch-length net from v.walk to tracing.number (reverse w.walk) tracing.branch tracing.within in
    let turned = length-reverse w.walk in
    record {
      there = subst (λ (t : Step). t.arc.0 < length net.arcs) found.is (tree.there found.place (omega (arith, found.next, tracing.within)));
      room = omega (arith, found.next, tracing.same.nodes, v.sized.short_walk);
    }

pub tracing-more : (net : Network) (colours : ℕ → Colour) (from to : ℕ) (v w new : Room) (node begin : ℕ) (s : Step) → IsTree net colours from v
    → IsTracing net from to v node w → Some s ≡ label_at w.labels node → ((room : length w.walk < w.nodes) → new ≡ with_step w s room)
    → begin ≡ begin_of net s → IsTracing net from to v begin new
tracing-more net colours from to v w new node begin s tree tracing label made begins =
    let found = reaching net colours from v tracing.number s tree tracing.within (label-same net from to v w node (Some s) tracing label) in
    let back = tree.earlier found.place (omega (arith, found.next, tracing.within)) in
    let before = back.1 in
    let begin_is : begin_of net s ≡ node_at net from v.walk back.0 = ap (begin_of net) (sym found.is) ∙ back.2 in
    let old : IsBranch net from v.walk to (suc found.place) (reverse w.walk) =
    subst (λ n. IsBranch net from v.walk to n (reverse w.walk)) found.next tracing.branch in
    let longer : IsBranch net from v.walk to back.0 (s ∷ reverse w.walk) =
    (found.place, before, omega (arith, found.next, tracing.within), found.is, begin_is, old) in
    let room = (tracing-room net colours from to v w node s tree tracing label).room in
    subst (IsTracing net from to v begin) (sym (made room)) (record {
      number = back.0;
      within = omega (arith, before, found.next, tracing.within);
      node_is = sym begin_is ∙ sym begins;
      branch = subst (IsBranch net from v.walk to back.0) (sym (reverse-append w.walk (s ∷ []))) longer;
      same = same-made v w (with_step w s room) tracing.same (same-with_step w s room);
    })

-- ---- the end

pub record IsTraced (net : Network) (colours : ℕ → Colour) (from to : ℕ) (v w : Room) : Type 0 where
  pub path : IsFreePath net colours w.walk from to
  pub lead : LeadAlong net w.labels w.walk
  pub same : IsSameButWalk v w

pub tracing-end : (net : Network) (colours : ℕ → Colour) (from to : ℕ) (v w new : Room) (node : ℕ) → IsTree net colours from v → from ≢ to
    → IsTracing net from to v node w → None ≡ label_at w.labels node → new ≡ with_turned_walk w → IsTraced net colours from to v new
tracing-end net colours from to v w new node tree apart tracing label made =
    let root = root_reached net colours from v tracing.number tree tracing.within (label-same net from to v w node None tracing label) in
    let whole : IsBranch net from v.walk to 0 (reverse w.walk) =
    subst (λ n. IsBranch net from v.walk to n (reverse w.walk)) root tracing.branch in
    let leads = branch-labels net colours from to v (reverse w.walk) tree whole in
    subst (IsTraced net colours from to v) (sym made) (record {
      path = branch-path net colours from to v (reverse w.walk) tree whole apart;
      lead = subst (λ labels. LeadAlong net labels (reverse w.walk)) (sym tracing.same.labels) leads;
      same = same-made v w (with_turned_walk w) tracing.same (same-turned w);
    })
