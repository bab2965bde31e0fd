use Rattle.std.proofs.Common.{sym, ap, subst, ◌∙◌, arith}
use Rattle.model_text.specs.Names.{IsName}
use Rattle.transport_front.specs.Table.{kind_at}
use Rattle.transport_front.proofs.BuildLemmas.{place_named, place_free, kind_short, nodes_more}
use Rattle.transport_front.proofs.compiling.add_nodes.Goals as goal

pub name_of-requires : goal.name_of-requires
name_of-requires c = subst IsName (sym c.place_name.ensures) (place_named c.args.t.now.table c.args.t.now.kept c.loop-i.i (omega arith))

pub add_node-requires-clause-free : goal.add_node-requires-clause-free
add_node-requires-clause-free c =
    let t = c.args.t.now.table in
    rw (c.loop-i.invariant.so_far, c.in_ok-name.ensures, c.place_name.ensures) (place_free t c.args.t.now.kept c.loop-i.i (omega arith))

pub add_node-requires-clause-short : goal.add_node-requires-clause-short
add_node-requires-clause-short c =
    let t = c.args.t.now.table in
    rw (c.in_ok-supply.ensures, c.kind.ensures) (kind_short (kind_at t c.loop-i.i) (c.args.t.now.kept.kinds c.loop-i.i _ (omega arith)))

pub loop-i-preserved : goal.loop-i-preserved
loop-i-preserved c =
    let t = c.args.t.now.table in
    record {
      so_far =
          c.in_ok-add_node.ensures.added
          ∙ rw (c.loop-i.invariant.so_far, c.in_ok-name.ensures, c.place_name.ensures, c.in_ok-supply.ensures, c.kind.ensures) (nodes_more t c.loop-i.i (omega arith));
      scale = c.add_node.ensures.scale ∙ c.loop-i.invariant.scale;
    }
