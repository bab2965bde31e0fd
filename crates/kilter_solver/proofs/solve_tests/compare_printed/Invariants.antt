use Rattle.kilter_solver.proofs.solve_tests.compare_printed.Given as goal

abbrev pub ghosts-solved_in_room : goal.ghosts-solved_in_room
ghosts-solved_in_room g a = record { name = a.blank.name; parts = a.blank.parts }
