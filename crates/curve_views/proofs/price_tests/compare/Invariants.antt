use Rattle.curve_views.proofs.price_tests.compare.Given as goal

abbrev pub ghosts-price_inside : goal.ghosts-price_inside
ghosts-price_inside g a = record { name = a.blank.name; parts = a.blank.parts }

abbrev pub ghosts-price_inside-2 : goal.ghosts-price_inside-2
ghosts-price_inside-2 g a = record { name = a.blank.name; parts = a.blank.parts }
