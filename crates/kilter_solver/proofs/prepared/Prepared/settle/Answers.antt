use Rattle.std.proofs.Common.{◌∙◌, map}
use Rattle.std.proofs.lemmas.List.{length-map}
use Rattle.net_incidence.specs.WithoutBases.{without_bases}
use Rattle.net_incidence.proofs.WithoutBases.{without_bases-network}
use Rattle.kilter_solver.specs.BundleFacts.{all_lists}
use Rattle.kilter_solver.proofs.RightKind.{kind_found}
use Rattle.kilter_solver.proofs.prepared.Prepared.settle.Goals as goal

pub returns-clause-kind : goal.returns-clause-kind
returns-clause-kind g c =
    let items = g.C.Monotone.items in
    let curves = c.args.curves.now in
    let good = without_bases-network c.args.net.now (map items curves) (all_lists items g.met.C.Monotone.is_list curves)
    (length-map curves items ∙ c.requires.passable.one_curve_each) in
    kind_found (without_bases c.args.net.now (map items curves)) good c.judge-kind.result c.judge-kind.new.work c.judge-kind.ensures.found
