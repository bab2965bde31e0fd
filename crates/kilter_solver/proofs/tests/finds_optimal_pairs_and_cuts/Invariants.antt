use Rattle.kilter_solver.proofs.tests.finds_optimal_pairs_and_cuts.Given as goal

abbrev pub ghosts-balanced : goal.ghosts-balanced
ghosts-balanced g a = record { name = a.blank.name; parts = a.blank.parts }
