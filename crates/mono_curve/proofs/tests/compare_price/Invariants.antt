use Rattle.mono_curve.proofs.tests.compare_price.Given as goal

abbrev pub ghosts-price_inside : goal.ghosts-price_inside
ghosts-price_inside g a = record { name = a.blank.name; parts = a.blank.parts }
