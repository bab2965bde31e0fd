use Rattle.std.proofs.Common.{arith}
use Rattle.mono_top.proofs.TableauLemmas.{row_named}
use Rattle.mono_top.proofs.show_tableau.append_row.Goals as goal

pub append_arc_name-requires : goal.append_arc_name-requires
append_arc_name-requires c =
    (let named = row_named c.args.model.now.entries c.args.tableau.now c.args.i c.requires.split c.requires.there in
    let is = c.row_arc.ensures in omega arith)
