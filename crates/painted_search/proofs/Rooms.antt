-- A room is its counts and lists: of the facts that it carries there is only one proof.
use Rattle.std.proofs.Common.{◌≡◌, ℕ, ◌+◌, ◌-◌, ◌*◌, ◌<◌, ℤ, Bool, Option, Some, None, List, [], ◌∷◌, length, take, drop, refl, sym, ap, ◌∙◌, subst, length-append, arith}
use Rattle.std.proofs.Props.{props}
use Rattle.theory.specs.declared.network.Step.{Step}
use Rattle.painted_search.specs.Room.{IsSized, Room}
use Rattle.painted_search.specs.Writes.{with_step}

pub record Lists : Type 0 where
  pub nodes : ℕ
  pub arcs : ℕ
  pub flows : List ℤ
  pub potentials : List ℤ
  pub reached : List Bool
  pub labels : List (Option Step)
  pub walk : List Step
  pub scratch : List ℤ
  pub queue : List ℕ

abbrev pub lists : Room → Lists
lists w = record {
  nodes = w.nodes;
  arcs = w.arcs;
  flows = w.flows;
  potentials = w.potentials;
  reached = w.reached;
  labels = w.labels;
  walk = w.walk;
  scratch = w.scratch;
  queue = w.queue;
}

abbrev AreSized : Lists → Type 0
AreSized l =
    IsSized l.nodes l.arcs l.flows l.potentials l.reached l.labels l.walk
    × (length l.scratch ≡ 2 * l.nodes)
    × (length l.queue ≡ 2 * l.nodes + 1)

abbrev room : (l : Lists) → AreSized l → Room
room l sized = record {
  nodes = l.nodes;
  arcs = l.arcs;
  flows = l.flows;
  potentials = l.potentials;
  reached = l.reached;
  labels = l.labels;
  walk = l.walk;
  scratch = l.scratch;
  queue = l.queue;
  sized = sized.0;
  two_words_each = sized.1;
  two_slots_each = sized.2;
}

pub room-same : (v w : Room) → lists v ≡ lists w → v ≡ w
room-same v w same =
    let one_proof : (q : AreSized (lists w)) → room (lists w) q ≡ w =
    (λ q.
    let one : IsProp (AreSized (lists w)) = hlevel props in
    ap (room (lists w)) (one q (w.sized, w.two_words_each, w.two_slots_each))) in
    let moved : (q : AreSized (lists v)) → room (lists v) q ≡ w =
    subst (λ (l : Lists). (q : AreSized l) → room l q ≡ w) (sym same) one_proof in
    moved (v.sized, v.two_words_each, v.two_slots_each)

abbrev pub with_walk : Room → List Step → Lists
with_walk w walk = record (lists w) { walk = walk }

-- a label that is no step has no other copy
pub clones-none : (IsClone : Option Step → Type 0) → ((s : Step) → IsClone (Some s) → ⊥) → (label : Option Step) → IsClone label → label ≡ None
clones-none IsClone never None clone = refl
clones-none IsClone never (Some s) clone = absurd (never s clone)

abbrev pub with_words : Room → ℕ → List ℤ → Lists
with_words w n words = record (lists w) { potentials = take n words; scratch = drop n words }

abbrev pub with_labels : Room → List (Option Step) → Lists
with_labels w labels = record (lists w) { labels = labels }

pub with_labels-same : (v w : Room) (l l' : List (Option Step)) → v ≡ w → l ≡ l' → with_labels v l ≡ with_labels w l'
with_labels-same v w l l' room labels = ap (λ (v : Room). with_labels v l) room ∙ ap (with_labels w) labels

abbrev pub with_search : Room → List Bool → List (Option Step) → List Step → Lists
with_search w reached labels walk = record (lists w) { reached = reached; labels = labels; walk = walk }

pub with_search-same : (v w : Room) (r r' : List Bool) (l l' : List (Option Step)) (k k' : List Step)
    → v ≡ w → r ≡ r' → l ≡ l' → k ≡ k' → with_search v r l k ≡ with_search w r' l' k'
with_search-same v w r r' l l' k k' room reached labels walk =
    ap (λ (v : Room). with_search v r l k) room
    ∙ ap (λ r. with_search w r l k) reached
    ∙ ap (λ l. with_search w r' l k) labels
    ∙ ap (λ k. with_search w r' l' k) walk

-- ---- a walk with one step more

pub with_step-less : (w new : Room) (s : Step) → length w.walk < w.nodes → ((room : length w.walk < w.nodes) → new ≡ with_step w s room)
    → new.nodes - length new.walk < w.nodes - length w.walk
with_step-less w new s room made =
    let nodes : new.nodes ≡ w.nodes = ap (λ (r : Room). r.nodes) (made room) in
    let count = ap (λ (r : Room). length r.walk) (made room) ∙ length-append w.walk (s ∷ []) in
    omega arith

pub with_step-some : (w new : Room) (s : Step) → length w.walk < w.nodes → ((room : length w.walk < w.nodes) → new ≡ with_step w s room)
    → 0 < length new.walk
with_step-some w new s room made =
    let count = ap (λ (r : Room). length r.walk) (made room) ∙ length-append w.walk (s ∷ []) in
    omega arith
