use Rattle.kilter_solver.proofs.counting_tests.a_million_units_take_few_readings.Given as goal

abbrev pub ghosts-passed : goal.ghosts-passed
ghosts-passed g a = record { name = a.blank.name; parts = a.blank.parts }
