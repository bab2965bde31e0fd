use Rattle.std.proofs.Common.{pos, ◌<ℤ◌, arith}
use Rattle.std.proofs.lemmas.Int.{ints}
use Rattle.kilter_solver.specs.Excess.{excess}
use Rattle.kilter_solver.proofs.Cutting.{stuck-cut}
use Rattle.kilter_solver.proofs.Serving.{sent-before, balancing-same}
use Rattle.kilter_solver.proofs.spread.Routing.send.Goals as goal

pub returns-in-None-clause-cut : goal.returns-in-None-clause-cut
returns-in-None-clause-cut g c =
    let net = c.args.self.now.net.now in
    let s = c.args.self.now.bundle.now in
    let lists = g.B.Bundle.lists s in
    let state = c.spread.ensures.state in
    let source = c.args.source.0 in
    let same = state.excesses source (omega (arith, c.requires.balancing.same_nodes, c.requires.there)) in
    let before = c.requires.surplus in
    let surplus : pos 0 <ℤ excess c.spread.new.work source = omega (arith, ints) in
    λ _. stuck-cut net lists source c.spread.new.work (g.met.B.Bundle.are_lists s)
    (balancing-same net lists c.args.work.now c.spread.new.work c.requires.balancing state) c.in-None.ensures.outcome c.requires.there surplus

pub returns-in-Some-clause-sent : goal.returns-in-Some-clause-sent
returns-in-Some-clause-sent g c =
    λ _. sent-before c.args.self.now.net.now c.args.work.now c.spread.new.work c.serve.new.work c.spread.ensures.state
    c.requires.balancing.same_nodes c.serve.ensures.sent

pub serve-requires-clause-few : goal.serve-requires-clause-few
serve-requires-clause-few g c =
    let same = c.spread.ensures.state.excesses c.args.source.0 (omega (arith, c.requires.balancing.same_nodes, c.requires.there)) in
    let few = c.requires.few in
    omega (arith, ints)
