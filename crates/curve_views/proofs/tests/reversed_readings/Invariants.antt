use Rattle.curve_views.proofs.tests.reversed_readings.Given as goal

abbrev pub ghosts-readings_of : goal.ghosts-readings_of
ghosts-readings_of g a = record { name = a.blank.name; parts = a.blank.parts }
