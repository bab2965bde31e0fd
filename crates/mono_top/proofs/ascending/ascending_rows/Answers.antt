use Rattle.std.proofs.Common.{◌+◌, length}
use Rattle.mono_top.proofs.AscendingLemmas.{ascending_push, ascending_skip}
use Rattle.mono_top.proofs.ascending.ascending_rows.Goals as goal
use Rattle.mono_top.proofs.ascending.ascending_rows.Goals.{in-Some+in_ok-push, in_default}

pub loop-arc-preserved : goal.loop-arc-preserved
loop-arc-preserved c =
    let table = c.args.tableau.now in
    elim c.match-row_of.branch [
      | in-Some+in_ok-push w ↦
          let more = ascending_push table.rows c.loop-arc.places.items c.loop-arc.arc w.in-Some.i (length table.rows + length table.columns)
          c.loop-arc.invariant w.in-Some.ensures c.requires in
          rw (w.places-is, w.in_ok-push.ensures.items) more
      | in_default w ↦
          let same = ascending_skip table.rows c.loop-arc.places.items c.loop-arc.arc c.loop-arc.invariant w.in_default.ensures in
          rw (w.places-is) same
    ]
