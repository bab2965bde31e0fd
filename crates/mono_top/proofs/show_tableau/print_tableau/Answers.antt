use Rattle.theory.specs.Grounded.{grounded}
use Rattle.mono_top.proofs.AscendingLemmas.{rows_once, columns_once}
use Rattle.mono_top.proofs.show_tableau.print_tableau.Goals as goal

pub ascending_rows-requires : goal.ascending_rows-requires
ascending_rows-requires c = rows_once (grounded c.args.model.now.entries) c.args.tableau.now c.requires

pub ascending_columns-requires : goal.ascending_columns-requires
ascending_columns-requires c = columns_once (grounded c.args.model.now.entries) c.args.tableau.now c.requires
