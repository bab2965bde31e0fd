use Rattle.kilter_solver.proofs.counting_tests.a_whole_solve_takes_few_readings.Given as goal

abbrev pub ghosts-solved : goal.ghosts-solved
ghosts-solved g a = record { name = a.blank.name; parts = a.blank.parts }
