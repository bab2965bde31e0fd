-- Writes: the room with one part changed.
use Rattle.std.specs.Prelude.{ℕ, ◌<◌, ℤ, true, Some, None, List, [], ◌∷◌, ◌++◌, length, take, drop, replicate, slice_set}
use Rattle.theory.specs.declared.network.Step.{Step}
use Rattle.painted_search.specs.Room.{Room, overwritten}
use Rattle.painted_search.specs.SizedFacts.{sized-flow, sized-potential, sized-potentials, sized-scratch, sized-word, sized-slot, sized-no_walk, sized-step, sized-marked, sized-unlabelled, sized-relabelled}

abbrev pub with_flow : Room → ℕ → ℤ → Room
with_flow w j x = record w { flows = slice_set w.flows j x; sized = sized-flow w j x }

abbrev pub with_potential : Room → ℕ → ℤ → Room
with_potential w i u = record w { potentials = slice_set w.potentials i u; sized = sized-potential w i u }

abbrev pub with_potentials : Room → List ℤ → Room
with_potentials w words = record w {
  potentials = take w.nodes (overwritten w words);
  scratch = drop w.nodes (overwritten w words);
  sized = sized-potentials w words;
  two_words_each = sized-scratch w words;
}

abbrev pub with_scratch : Room → ℕ → ℤ → Room
with_scratch w k z = record w { scratch = slice_set w.scratch k z; two_words_each = sized-word w k z }

abbrev pub with_queue : Room → ℕ → ℕ → Room
with_queue w k word = record w { queue = slice_set w.queue k word; two_slots_each = sized-slot w k word }

abbrev pub with_no_walk : Room → Room
with_no_walk w = record w { walk = []; sized = sized-no_walk w }

abbrev pub with_step : (w : Room) (s : Step) → length w.walk < w.nodes → Room
with_step w s room = record w { walk = w.walk ++ s ∷ []; sized = sized-step w s room }

-- node i marked and labelled as it was
abbrev pub with_mark : Room → ℕ → Room
with_mark w i = record w { reached = slice_set w.reached i true; sized = sized-marked w i }

-- no label anywhere
abbrev pub unlabelled : Room → Room
unlabelled w = record w { labels = replicate w.nodes None; sized = sized-unlabelled w }

-- node i labelled by a step, and marked as it was
abbrev pub relabelled : Room → ℕ → Step → Room
relabelled w i s = record w { labels = slice_set w.labels i (Some s); sized = sized-relabelled w i s }
