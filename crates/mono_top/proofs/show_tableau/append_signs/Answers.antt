use Rattle.std.proofs.Common.{refl}
use Rattle.cert_text.proofs.Texts.{appended}
use Rattle.tucker_tableau.specs.Tableau.{number}
use Rattle.mono_top.specs.ShowsTableau.{sign_text}
use Rattle.mono_top.proofs.show_tableau.append_signs.Goals as goal

pub loop-k-preserved : goal.loop-k-preserved
loop-k-preserved c =
    appended c.loop-k.k (λ k. sign_text c.args.tableau.now c.args.i (number c.args.columns.now k)) _ _ _ _ c.loop-k.invariant c.in_ok-append_sign.ensures refl
