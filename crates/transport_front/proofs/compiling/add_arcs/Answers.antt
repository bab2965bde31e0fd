use Rattle.std.proofs.Common.{sym, ap, subst, ◌∙◌, [], arith}
use Rattle.model_text.specs.Names.{IsName}
use Rattle.transport_front.specs.Table.{lane_at}
use Rattle.transport_front.proofs.BuildLemmas.{lane_named, lane_free, arcs_more}
use Rattle.transport_front.proofs.CurveLemmas.{length-priced}
use Rattle.transport_front.proofs.compiling.add_arcs.Goals as goal

pub name_of-requires : goal.name_of-requires
name_of-requires c = subst IsName (sym c.lane_name.ensures) (lane_named c.args.t.now.table c.args.t.now.kept c.loop-j.j (omega arith))

pub add_arc-requires-clause-free : goal.add_arc-requires-clause-free
add_arc-requires-clause-free c =
    let t = c.args.t.now.table in
    rw (c.loop-j.invariant.so_far, c.in_ok-name.ensures, c.lane_name.ensures, c.lane-lane.ensures.from, c.lane-lane.ensures.to) (lane_free t c.args.t.now.kept c.loop-j.j (omega arith))

pub add_arc-requires-clause-short : goal.add_arc-requires-clause-short
add_arc-requires-clause-short c =
    let t = c.args.t.now.table in
    let few = (c.args.t.now.kept.joined c.loop-j.j (record { name = []; from = 0; to = 0; pairs = [] }) (omega arith)).pairs.few in
    rw (c.in_ok-curve.ensures, c.deref.ensures.value, c.lane-lane.ensures.pairs) (omega (arith, length-priced (lane_at t c.loop-j.j).pairs))

pub loop-j-preserved : goal.loop-j-preserved
loop-j-preserved c =
    let t = c.args.t.now.table in
    record {
      so_far =
          c.in_ok-add_arc.ensures.added
          ∙ rw (c.loop-j.invariant.so_far, c.in_ok-name.ensures, c.lane_name.ensures, c.lane-lane.ensures.from, c.lane-lane.ensures.to, c.in_ok-curve.ensures, c.deref.ensures.value, c.lane-lane.ensures.pairs)
          (arcs_more t c.loop-j.j (omega arith));
      scale = c.add_arc.ensures.scale ∙ c.loop-j.invariant.scale;
    }
