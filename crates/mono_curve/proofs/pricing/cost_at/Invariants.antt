use Rattle.mono_curve.proofs.pricing.cost_at.Given as goal

abbrev pub ghosts-priced : goal.ghosts-priced
ghosts-priced g a = record { name = a.blank.name; parts = a.blank.parts }
