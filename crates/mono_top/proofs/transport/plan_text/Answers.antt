-- The table that the text spells is the one whose model was solved.
use Rattle.mono_top.proofs.TransportLemmas.{reads_spelled}
use Rattle.mono_top.proofs.transport.plan_text.Goals as goal

pub returns-in_err-plan-in-Ok-clause-readings : goal.returns-in_err-plan-in-Ok-clause-readings
returns-in_err-plan-in-Ok-clause-readings g c =
    reads_spelled c.args.text.now c.in-Ok.table.table c.args.steps.now c.plan.new.steps c.in-Ok.ensures.table c.plan.ensures.readings

pub returns-in_ok-plan-in-Ok-clause-readings : goal.returns-in_ok-plan-in-Ok-clause-readings
returns-in_ok-plan-in-Ok-clause-readings g c =
    reads_spelled c.args.text.now c.in-Ok.table.table c.args.steps.now c.plan.new.steps c.in-Ok.ensures.table c.plan.ensures.readings
