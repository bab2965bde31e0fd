use Rattle.std.proofs.Common.{refl}
use Rattle.cert_text.proofs.Texts.{appended}
use Rattle.tucker_tableau.specs.Tableau.{number}
use Rattle.mono_top.specs.ShowsTableau.{row_line}
use Rattle.mono_top.proofs.show_tableau.append_rows.Goals as goal

pub loop-k-preserved : goal.loop-k-preserved
loop-k-preserved c =
    appended c.loop-k.k (λ k. row_line c.args.model.now.entries c.args.tableau.now c.args.columns.now (number c.args.rows.now k)) _ _ _ _ c.loop-k.invariant c.in_ok-append_row.ensures refl
