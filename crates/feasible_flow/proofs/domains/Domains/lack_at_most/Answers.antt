-- Where an arc lacks more than what is left, so do all arcs together, since no later one takes anything back.
use Rattle.std.proofs.Common.{length, arith}
use Rattle.std.proofs.lemmas.Bool.{false≢true}
use Rattle.feasible_flow.specs.ByLevels.{levels_of}
use Rattle.feasible_flow.proofs.ViolationFalls.{lacks-more}
use Rattle.feasible_flow.proofs.domains.Domains.lack_at_most.Goals as goal

pub returns-then-left-lacks-clause-answer : goal.returns-then-left-lacks-clause-answer
returns-then-left-lacks-clause-answer g c =
    let lists = levels_of g.C.Monotone.items c.args.self.now.level c.args.self.now.curves.now in
    let more = lacks-more (length c.args.self.now.curves.now) c.loop-j.j c.args.amount c.loop-j.left c.violation_of-lacks.result
    lists c.args.work.now.flows
    (omega (arith, c.loop-j-test.true, c.arcs-j-end.ensures, c.args.work.now.sized.one_flow_each, c.requires.one_each))
    c.loop-j.invariant.rest c.violation_of-lacks.ensures.value c.if-left-lacks.true in
    (λ never. absurd (false≢true never), λ few. absurd (omega (arith, more, few)))
