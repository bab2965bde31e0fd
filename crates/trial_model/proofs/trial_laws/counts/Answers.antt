use Rattle.trial_model.proofs.TrialLaws.{counts}
use Rattle.trial_model.proofs.trial_laws.counts.Goals as goal

pub returns : goal.returns
returns c = counts
