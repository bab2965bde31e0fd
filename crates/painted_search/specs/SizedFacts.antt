-- Lengths as a room is written to: each write keeps them.
use Rattle.std.specs.Prelude.{◌≡◌, ℕ, ◌+◌, ◌*◌, ◌<◌, ◌≤◌, ℤ, Bool, true, false, Option, Some, None, List, [], ◌∷◌, ◌++◌, length, take, drop, replicate, reverse, slice_set}
use Rattle.std.proofs.Common.{refl, sym, ◌∙◌, arith, length-append, length-drop}
use Rattle.std.proofs.lemmas.List.{length-set, length-replicate, length-reverse, length-take-le}
use Rattle.std.specs.List.{length_refill}
use Rattle.theory.specs.declared.network.Step.{Step}
use Rattle.painted_search.specs.Room.{IsSized, Room, overwritten}

-- lists of the same lengths, and a walk that is short enough
pub resized : {nodes arcs : ℕ} {flows potentials flows' potentials' : List ℤ} {reached reached' : List Bool} {labels labels' : List (Option Step)}
    {walk walk' : List Step} → IsSized nodes arcs flows potentials reached labels walk
    → length flows' ≡ length flows → length potentials' ≡ length potentials → length reached' ≡ length reached → length labels' ≡ length labels
    → length walk' ≤ nodes → IsSized nodes arcs flows' potentials' reached' labels' walk'
resized s flows potentials reached labels walk = record {
  some_node = s.some_node;
  few_nodes = s.few_nodes;
  few_arcs = s.few_arcs;
  one_flow_each = flows ∙ s.one_flow_each;
  one_potential_each = potentials ∙ s.one_potential_each;
  one_mark_each = reached ∙ s.one_mark_each;
  one_label_each = labels ∙ s.one_label_each;
  short_walk = walk;
}

pub sized-flow : (w : Room) (j : ℕ) (x : ℤ) → IsSized w.nodes w.arcs (slice_set w.flows j x) w.potentials w.reached w.labels w.walk
sized-flow w j x = resized w.sized (length-set w.flows j x) refl refl refl w.sized.short_walk

pub sized-potential : (w : Room) (i : ℕ) (u : ℤ) → IsSized w.nodes w.arcs w.flows (slice_set w.potentials i u) w.reached w.labels w.walk
sized-potential w i u = resized w.sized refl (length-set w.potentials i u) refl refl w.sized.short_walk

pub length-words : (w : Room) (words : List ℤ) → length (overwritten w words) ≡ 3 * w.nodes
length-words w words =
    let all = length-append w.potentials w.scratch in
    sym (length_refill (3 * w.nodes) (w.potentials ++ w.scratch) words (omega (arith, w.sized.one_potential_each, w.two_words_each)))
    ∙ omega (arith, w.sized.one_potential_each, w.two_words_each)

pub sized-potentials : (w : Room) (words : List ℤ)
    → IsSized w.nodes w.arcs w.flows (take w.nodes (overwritten w words)) w.reached w.labels w.walk
sized-potentials w words =
    let all = length-words w words in
    let front = length-take-le w.nodes (overwritten w words) (omega arith) in
    resized w.sized refl (front ∙ sym w.sized.one_potential_each) refl refl w.sized.short_walk

pub sized-scratch : (w : Room) (words : List ℤ) → length (drop w.nodes (overwritten w words)) ≡ 2 * w.nodes
sized-scratch w words =
    let all = length-words w words in
    let rest = length-drop w.nodes (overwritten w words) in
    omega arith

pub sized-word : (w : Room) (k : ℕ) (z : ℤ) → length (slice_set w.scratch k z) ≡ 2 * w.nodes
sized-word w k z = length-set w.scratch k z ∙ w.two_words_each

pub sized-slot : (w : Room) (k word : ℕ) → length (slice_set w.queue k word) ≡ 2 * w.nodes + 1
sized-slot w k word = length-set w.queue k word ∙ w.two_slots_each

pub sized-no_walk : (w : Room) → IsSized w.nodes w.arcs w.flows w.potentials w.reached w.labels []
sized-no_walk w = resized w.sized refl refl refl refl (omega arith)

pub sized-step : (w : Room) (s : Step) → length w.walk < w.nodes → IsSized w.nodes w.arcs w.flows w.potentials w.reached w.labels (w.walk ++ s ∷ [])
sized-step w s room = resized w.sized refl refl refl refl (let e = length-append w.walk (s ∷ []) in omega arith)

pub sized-begun : (w : Room) (i : ℕ)
    → IsSized w.nodes w.arcs w.flows w.potentials (slice_set (replicate w.nodes false) i true) (replicate w.nodes None) []
sized-begun w i =
    resized w.sized refl refl
    (length-set (replicate w.nodes false) i true ∙ length-replicate w.nodes false ∙ sym w.sized.one_mark_each)
    (length-replicate w.nodes None ∙ sym w.sized.one_label_each) (omega arith)

pub sized-label : (w : Room) (i : ℕ) (s : Step)
    → IsSized w.nodes w.arcs w.flows w.potentials (slice_set w.reached i true) (slice_set w.labels i (Some s)) w.walk
sized-label w i s =
    resized w.sized refl refl (length-set w.reached i true) (length-set w.labels i (Some s)) w.sized.short_walk

pub sized-turned : (w : Room) → IsSized w.nodes w.arcs w.flows w.potentials w.reached w.labels (reverse w.walk)
sized-turned w = resized w.sized refl refl refl refl (let e = length-reverse w.walk in omega (arith, w.sized.short_walk))

pub sized-marked : (w : Room) (i : ℕ) → IsSized w.nodes w.arcs w.flows w.potentials (slice_set w.reached i true) w.labels w.walk
sized-marked w i = resized w.sized refl refl (length-set w.reached i true) refl w.sized.short_walk

pub sized-unlabelled : (w : Room) → IsSized w.nodes w.arcs w.flows w.potentials w.reached (replicate w.nodes None) w.walk
sized-unlabelled w =
    resized w.sized refl refl refl (length-replicate w.nodes None ∙ sym w.sized.one_label_each) w.sized.short_walk

pub sized-relabelled : (w : Room) (i : ℕ) (s : Step)
    → IsSized w.nodes w.arcs w.flows w.potentials w.reached (slice_set w.labels i (Some s)) w.walk
sized-relabelled w i s = resized w.sized refl refl refl (length-set w.labels i (Some s)) w.sized.short_walk
