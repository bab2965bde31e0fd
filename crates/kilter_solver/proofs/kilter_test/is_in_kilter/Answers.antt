use Rattle.std.proofs.Common.{◌≡◌, ◌∙◌, ℤ, List, map, pos, ap, sym, subst, below_more, arith, rules}
use Rattle.std.proofs.lemmas.Int.{ints}
use Rattle.theory.specs.declared.ext.Ext.{Ext}
use Rattle.theory.specs.OnCurve.{IsOnCurve}
use Rattle.theory.specs.Network.{«at»}
use Rattle.theory.specs.Conserved.{divergence, tension}
use Rattle.net_incidence.specs.Graph.{bare}
use Rattle.net_incidence.proofs.WithoutBases.{without_bases-items}
use Rattle.kilter_solver.proofs.kilter_test.is_in_kilter.Goals as goal

pub loop-i-preserved : goal.loop-i-preserved
loop-i-preserved g c =
    let none : c.divergence.result ≡ pos 0 = search rules in
    let here : divergence (bare c.args.net.now) («at» c.args.work.now.flows) c.loop-i.i ≡ pos 0 =
    ap (λ (x : List ℤ). divergence (bare c.args.net.now) («at» x) c.loop-i.i) (sym c.flows-in-loop-i.ensures) ∙ sym c.divergence.ensures ∙ none in
    record { balanced = below_more _ _ c.loop-i.invariant.balanced here }

pub returns-clause-pair : goal.returns-clause-pair
returns-clause-pair g c =
    let net = c.args.net.now in
    let lists = map g.C.Monotone.items c.args.curves.now in
    λ yes. record {
      conserved = λ i there. (let none = c.loop-i.invariant.balanced i (omega arith) in omega (arith, ints));
      on_curves = λ j there.
          subst (λ (items : List Ext). IsOnCurve 1 items («at» c.args.work.now.flows j) (tension (bare net) («at» c.args.work.now.potentials) j))
          (sym (without_bases-items net lists j)) ((c.are_on_curves.ensures.pairs yes).pairs j there);
    }
