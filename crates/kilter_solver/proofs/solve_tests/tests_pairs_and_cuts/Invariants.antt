use Rattle.kilter_solver.proofs.solve_tests.tests_pairs_and_cuts.Given as goal

abbrev pub ghosts-tested : goal.ghosts-tested
ghosts-tested g a = record { name = a.blank.name; parts = a.blank.parts }
