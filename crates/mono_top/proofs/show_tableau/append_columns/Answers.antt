use Rattle.std.proofs.Common.{refl}
use Rattle.cert_text.proofs.Texts.{appended}
use Rattle.tucker_tableau.specs.Tableau.{number}
use Rattle.mono_top.specs.ShowsTableau.{column_line}
use Rattle.mono_top.proofs.show_tableau.append_columns.Goals as goal

pub loop-k-preserved : goal.loop-k-preserved
loop-k-preserved c =
    appended c.loop-k.k (λ k. column_line c.args.model.now.entries c.args.tableau.now (number c.args.columns.now k)) _ _ _ _ c.loop-k.invariant c.in_ok-append_column.ensures refl
