use Rattle.std.proofs.Common.{◌≡◌, ◌+◌, ◌-◌, ◌≤◌, IsTrue, vec_len}
use Rattle.std.specs.Io.KnownBytes.{prepend_known}
use Rattle.outside_io.specs.Seen.{Moves}
use Rattle.outside_io.proofs.whole.read_rest.Given as goal

-- the bytes so far stand in front of what is left
abbrev pub invariant-loop-chunk : goal.invariant-loop-chunk
invariant-loop-chunk g l = record {
  read : (g.S.Shelf.seen l.initial.shelf).rest ≡ prepend_known l.bytes.items (g.S.Shelf.seen l.shelf).rest;
  within : vec_len l.bytes ≤ l.most + 1;
  started : IsTrue (g.S.Shelf.seen l.shelf).started;
  log : (g.S.Shelf.seen l.shelf).log ≡ (g.S.Shelf.seen l.initial.shelf).log;
  moves : Moves (g.S.Shelf.seen l.initial.shelf) (g.S.Shelf.seen l.shelf);
}

abbrev pub decreases-loop-chunk : goal.decreases-loop-chunk
decreases-loop-chunk g l = l.most + 1 - vec_len l.bytes
