use Rattle.std.proofs.Common.{arith}
use Rattle.std.proofs.lemmas.Int.{ints}
use Rattle.trial_model.proofs.CurveLemmas.{chord_list_is}
use Rattle.trial_model.proofs.chords.chord_list.Goals as goal

pub returns : goal.returns
returns c =
    chord_list_is _ _ _ _ c.args.slope c.args.first c.args.steeper c.args.further (omega (arith, ints)) (omega (arith, ints)) (omega (arith, ints)) (omega (arith, ints))
