use Rattle.std.proofs.Common.{arith}
use Rattle.std.proofs.lemmas.Int.{ints}
use Rattle.trial_model.proofs.CurveLemmas.{ring_list_is}
use Rattle.trial_model.proofs.ring.ring_items.Goals as goal

pub returns : goal.returns
returns c = ring_list_is _ _ _ (omega (arith, ints)) (omega (arith, ints))
