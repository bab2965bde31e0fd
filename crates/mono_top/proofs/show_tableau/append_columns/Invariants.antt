use Rattle.std.proofs.Common.{◌≡◌, ◌++◌}
use Rattle.cert_text.specs.CertificateText.{texts_below}
use Rattle.tucker_tableau.specs.Tableau.{number}
use Rattle.mono_top.specs.ShowsTableau.{column_line}
use Rattle.mono_top.proofs.show_tableau.append_columns.Given as goal

abbrev pub invariant-loop-k : goal.invariant-loop-k
invariant-loop-k l = (l.out.items ≡ l.initial.out.items ++ texts_below l.k (λ k. column_line l.model.entries l.tableau (number l.columns k)))
