-- The changes that a text spells are those of the model, and not too many.
use Rattle.warm_solve.proofs.ChangesLaws.{spelled_fits}
use Rattle.mono_top.proofs.ResolveLemmas.{reads_spelled}
use Rattle.mono_top.proofs.resolve.resolve_text.Goals as goal

pub follow-requires-clause-fit : goal.follow-requires-clause-fit
follow-requires-clause-fit g c = (spelled_fits c.args.model.now.scale c.args.model.now.entries c.args.text.now _ c.in-Ok.ensures.changes).each

pub follow-requires-clause-few : goal.follow-requires-clause-few
follow-requires-clause-few g c = (spelled_fits c.args.model.now.scale c.args.model.now.entries c.args.text.now _ c.in-Ok.ensures.changes).few

pub returns-in_err-follow-in-Ok-clause-readings : goal.returns-in_err-follow-in-Ok-clause-readings
returns-in_err-follow-in-Ok-clause-readings g c =
    reads_spelled c.args.model.now.scale c.args.model.now.entries c.args.text.now _ c.args.steps.now c.follow.new.steps c.in-Ok.ensures.changes
    c.follow.ensures.no_fewer c.follow.ensures.bounded

pub returns-in_ok-follow-in-Ok-clause-readings : goal.returns-in_ok-follow-in-Ok-clause-readings
returns-in_ok-follow-in-Ok-clause-readings g c =
    reads_spelled c.args.model.now.scale c.args.model.now.entries c.args.text.now _ c.args.steps.now c.follow.new.steps c.in-Ok.ensures.changes
    c.follow.ensures.no_fewer c.follow.ensures.bounded
