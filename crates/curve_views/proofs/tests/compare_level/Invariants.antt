use Rattle.curve_views.proofs.tests.compare_level.Given as goal

abbrev pub ghosts-readings_of : goal.ghosts-readings_of
ghosts-readings_of g a = record { name = a.blank.name; parts = a.blank.parts }
