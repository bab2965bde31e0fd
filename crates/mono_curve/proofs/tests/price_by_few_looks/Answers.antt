use Rattle.mono_curve.proofs.tests.price_by_few_looks.Goals as goal

pub returns : goal.returns
returns g c = record { counted = c.price.ensures.counted 12 c.requires.short }
