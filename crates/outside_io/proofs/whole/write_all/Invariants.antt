use Rattle.std.proofs.Common.{◌≡◌, ◌-◌, ◌≤◌, take, length}
use Rattle.outside_io.specs.Counts.{Counts}
use Rattle.outside_io.specs.Sink.{Grew, Fell}
use Rattle.outside_io.proofs.whole.write_all.Given as goal

abbrev pub invariant-loop-at : goal.invariant-loop-at
invariant-loop-at g l = record {
  within : l.at ≤ length l.text;
  grown : Grew (g.K.Sink.written l.initial.out) (g.K.Sink.written l.out) (take l.at l.text);
  spent : Fell (g.K.Sink.sure l.initial.out) (g.K.Sink.sure l.out) l.at;
  faults : Counts (g.K.Sink.faults l.initial.out) (g.K.Sink.faults l.out);
  unused : l.at ≡ 0 → l.out ≡ l.initial.out;
}

abbrev pub decreases-loop-at : goal.decreases-loop-at
decreases-loop-at g l = length l.text - l.at
