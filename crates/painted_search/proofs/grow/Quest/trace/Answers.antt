use Rattle.net_incidence.specs.Graph.{bare}
use Rattle.painted_search.proofs.Rooms.{with_step-less}
use Rattle.painted_search.proofs.Tracing.{tracing-room, tracing-more, tracing-end}
use Rattle.painted_search.proofs.grow.Quest.trace.Goals as goal

pub push_step-requires : goal.push_step-requires
push_step-requires g c =
    (tracing-room (bare c.args.self.now.net.now) _ c.args.self.now.from.0 c.args.self.now.to.0 c.args.work.now c.loop-step.work
    c.loop-step.node.0 c.in-Some.step c.requires.searching.tree c.loop-step.invariant c.in-Some.ensures).room

pub loop-step-smaller : goal.loop-step-smaller
loop-step-smaller g c =
    let back = tracing-room (bare c.args.self.now.net.now) _ c.args.self.now.from.0 c.args.self.now.to.0 c.args.work.now c.loop-step.work
    c.loop-step.node.0 c.in-Some.step c.requires.searching.tree c.loop-step.invariant c.in-Some.ensures in
    with_step-less c.loop-step.work c.push_step.new.self c.in-Some.step back.room c.push_step.ensures

pub loop-step-preserved : goal.loop-step-preserved
loop-step-preserved g c =
    tracing-more (bare c.args.self.now.net.now) _ c.args.self.now.from.0 c.args.self.now.to.0 c.args.work.now c.loop-step.work
    c.push_step.new.self c.loop-step.node.0 c.begin-node.result.0 c.in-Some.step c.requires.searching.tree c.loop-step.invariant
    c.in-Some.ensures c.push_step.ensures c.begin-node.ensures

pub returns : goal.returns
returns g c =
    let traced = tracing-end (bare c.args.self.now.net.now) _ c.args.self.now.from.0 c.args.self.now.to.0 c.args.work.now c.loop-step.work
    c.turn_walk.new.self c.loop-step.node.0 c.requires.searching.tree c.requires.apart c.loop-step.invariant c.in_default.ensures
    c.turn_walk.ensures in
    record { path = traced.path; lead = traced.lead; same = traced.same }
