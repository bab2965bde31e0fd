use Rattle.std.proofs.Common.{◌≡◌, ◌++◌}
use Rattle.cert_text.specs.CertificateText.{texts_below}
use Rattle.tucker_tableau.specs.Tableau.{number}
use Rattle.mono_top.specs.ShowsTableau.{sign_text}
use Rattle.mono_top.proofs.show_tableau.append_signs.Given as goal

abbrev pub invariant-loop-k : goal.invariant-loop-k
invariant-loop-k l = (l.out.items ≡ l.initial.out.items ++ texts_below l.k (λ k. sign_text l.tableau l.i (number l.columns k)))
