use Rattle.path_cut.proofs.tests.finds_a_greatest_tension.Given as goal

abbrev pub ghosts-found : goal.ghosts-found
ghosts-found g a = record { name = a.blank.name; parts = a.blank.parts }
