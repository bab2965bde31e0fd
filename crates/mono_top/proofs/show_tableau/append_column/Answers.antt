use Rattle.std.proofs.Common.{arith}
use Rattle.mono_top.proofs.TableauLemmas.{column_named}
use Rattle.mono_top.proofs.show_tableau.append_column.Goals as goal

pub append_arc_name-requires : goal.append_arc_name-requires
append_arc_name-requires c =
    (let named = column_named c.args.model.now.entries c.args.tableau.now c.args.j c.requires.split c.requires.there in
    let is = c.column_arc.ensures in omega arith)
