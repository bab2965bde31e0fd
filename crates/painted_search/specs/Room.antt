-- Room: what the working room of a solve is seen as. A flow for each arc, a potential, a mark and a label for each node, a
-- walk, two more numbers for each node for the caller's own use, a queue of two words for each node and one, and the counts of
-- nodes and arcs that it was taken for, with the proof that the lengths agree with these.
use Rattle.std.specs.Prelude.{◌≡◌, ℕ, ◌+◌, ◌*◌, ◌≤◌, ◌^◌, ℤ, pos, Bool, false, Option, None, List, [], ◌++◌, length, take, drop, replicate}
use Rattle.theory.specs.declared.network.Step.{Step}

-- the greatest count of nodes, and of arcs
abbrev pub count_most : ℕ
count_most = 10 ^ 6

pub record IsSized (nodes arcs : ℕ) (flows potentials : List ℤ) (reached : List Bool) (labels : List (Option Step)) (walk : List Step) : Type 0 where
  pub some_node : 1 ≤ nodes
  pub few_nodes : nodes ≤ count_most
  pub few_arcs : arcs ≤ count_most
  pub one_flow_each : length flows ≡ arcs
  pub one_potential_each : length potentials ≡ nodes
  pub one_mark_each : length reached ≡ nodes
  pub one_label_each : length labels ≡ nodes
  pub short_walk : length walk ≤ nodes

pub record Room : Type 0 where
  pub nodes : ℕ
  pub arcs : ℕ
  pub flows : List ℤ
  pub potentials : List ℤ
  pub reached : List Bool
  pub labels : List (Option Step)
  pub walk : List Step
  pub scratch : List ℤ
  pub queue : List ℕ
  pub sized : IsSized nodes arcs flows potentials reached labels walk
  pub two_words_each : length scratch ≡ 2 * nodes
  pub two_slots_each : length queue ≡ 2 * nodes + 1

-- the room as it is taken: all numbers 0, no node marked, no label, no step
pub record IsEmpty (count_of_nodes count_of_arcs : ℕ) (w : Room) : Type 0 where
  pub nodes : w.nodes ≡ count_of_nodes
  pub arcs : w.arcs ≡ count_of_arcs
  pub flows : w.flows ≡ replicate count_of_arcs (pos 0)
  pub potentials : w.potentials ≡ replicate count_of_nodes (pos 0)
  pub reached : w.reached ≡ replicate count_of_nodes false
  pub labels : w.labels ≡ replicate count_of_nodes None
  pub walk : w.walk ≡ []
  pub scratch : w.scratch ≡ replicate (2 * count_of_nodes) (pos 0)
  pub queue : w.queue ≡ replicate (2 * count_of_nodes + 1) 0

-- all words of the nodes, with the first of them written over: the potentials, then the scratch
abbrev pub overwritten : Room → List ℤ → List ℤ
overwritten w words = take (3 * w.nodes) (words ++ drop (length words) (w.potentials ++ w.scratch))
