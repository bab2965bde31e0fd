use Rattle.model_text.specs.ModelText.{part_listing}
use Rattle.model_text.proofs.part.curve_of_words.Goals as goal

pub returns-clause-curve : goal.returns-clause-curve
unfolding part_listing
returns-clause-curve c =
    rw (← c.in_ok-numbers_of.ensures.items, ← c.in_ok-numbers_of.ensures.base) c.into_curve.ensures.curve
