use Rattle.kilter_solver.proofs.solve_tests.compare.Given as goal

abbrev pub ghosts-solved : goal.ghosts-solved
ghosts-solved g a = record { name = a.blank.name; parts = a.blank.parts }

abbrev pub ghosts-passed : goal.ghosts-passed
ghosts-passed g a = record { name = a.blank.name; parts = a.blank.parts }

abbrev pub ghosts-found : goal.ghosts-found
ghosts-found g a = record { name = a.blank.name; parts = a.blank.parts }

abbrev pub ghosts-solved_in_room : goal.ghosts-solved_in_room
ghosts-solved_in_room g a = record { name = a.blank.name; parts = a.blank.parts }
