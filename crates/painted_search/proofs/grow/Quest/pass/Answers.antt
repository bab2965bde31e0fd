use Rattle.std.proofs.Common.{◌∙◌, rules}
use Rattle.theory.specs.Circuit.{end_of}
use Rattle.net_incidence.specs.Graph.{bare}
use Rattle.painted_search.specs.Path.{IsFreeStep}
use Rattle.painted_search.proofs.Growing.{passed, unreached, searching-room}
use Rattle.painted_search.proofs.grow.Quest.pass.Goals as goal

pub reach-requires-clause-room : goal.reach-requires-clause-room
reach-requires-clause-room g c =
    searching-room c.args.self.now.net.now _ _ _ c.args.work.now c.args.step c.requires.searching c.requires.there
    (unreached c.args.work.now.reached c.end-end.result.0 (end_of (bare c.args.self.now.net.now) c.args.step) c.reached.result
    c.end-end.ensures c.reached.ensures c.if-reached.false)

pub returns : goal.returns
returns g c =
    let free : IsFreeStep (g.P.Painter.paint c.args.self.now.painter.now c.args.work.now.flows c.args.work.now.potentials) c.args.step =
    search rules in
    let all = passed c.args.self.now.net.now _ _ _ c.args.step c.end-end.result.0 c.args.work.now c.reach.new.self c.reached.result
    c.requires.searching c.requires.there free c.requires.reached c.end-end.ensures c.reached.ensures c.if-reached.false c.reach.ensures in
    record {
      searching = all.searching;
      goes_on = all.goes_on;
      met = c.eq.ensures ∙ all.met c.args.self.now.to.0 c.requires.unmet;
      left = λ is_free. all.reached;
      no_fewer = search rules;
      count = search rules;
    }
