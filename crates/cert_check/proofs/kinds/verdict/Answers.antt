use Rattle.std.proofs.Common.{rules}
use Rattle.cert_text.specs.Shown.{shown}
use Rattle.cert_check.specs.Verdict.{IsVerdict}
use Rattle.cert_check.proofs.Verdicts.{accepted-is_valid}
use Rattle.cert_check.proofs.kinds.verdict.Goals as goal

pub returns-in-Optimal-clause-accepted : goal.returns-in-Optimal-clause-accepted
returns-in-Optimal-clause-accepted c =
    let first : IsVerdict c.args.g.now.network (shown c.args.c.now) c.judge_pair.result = search rules in
    accepted-is_valid c.args.g.now.network (shown c.args.c.now) c.judge_pair.result c.requires first

pub returns-in-Cut-clause-accepted : goal.returns-in-Cut-clause-accepted
returns-in-Cut-clause-accepted c =
    let first : IsVerdict c.args.g.now.network (shown c.args.c.now) c.judge_cut.result = search rules in
    accepted-is_valid c.args.g.now.network (shown c.args.c.now) c.judge_cut.result c.requires first

pub returns-in-Circuit-clause-accepted : goal.returns-in-Circuit-clause-accepted
returns-in-Circuit-clause-accepted c =
    let first : IsVerdict c.args.g.now.network (shown c.args.c.now) c.judge_circuit.result = search rules in
    accepted-is_valid c.args.g.now.network (shown c.args.c.now) c.judge_circuit.result c.requires first
