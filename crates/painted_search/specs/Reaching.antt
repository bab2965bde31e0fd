-- What a search writes: the root alone, a further node, the walk turned round.
use Rattle.std.specs.Prelude.{ℕ, ◌<◌, true, false, Some, None, [], length, replicate, reverse, slice_set}
use Rattle.theory.specs.declared.network.Step.{Step}
use Rattle.painted_search.specs.Room.{Room}
use Rattle.painted_search.specs.SizedFacts.{sized-begun, sized-label, sized-turned}
use Rattle.painted_search.specs.Writes.{with_step}

-- one node reached, by no step
abbrev pub begun : Room → ℕ → Room
begun w i = record w {
  reached = slice_set (replicate w.nodes false) i true;
  labels = replicate w.nodes None;
  walk = [];
  sized = sized-begun w i;
}

-- node i reached by a step
abbrev pub with_label : Room → ℕ → Step → Room
with_label w i s =
    record w { reached = slice_set w.reached i true; labels = slice_set w.labels i (Some s); sized = sized-label w i s }

abbrev pub with_reached : (w : Room) (i : ℕ) (s : Step) → length w.walk < w.nodes → Room
with_reached w i s room = with_step (with_label w i s) s room

abbrev pub with_turned_walk : Room → Room
with_turned_walk w = record w { walk = reverse w.walk; sized = sized-turned w }
