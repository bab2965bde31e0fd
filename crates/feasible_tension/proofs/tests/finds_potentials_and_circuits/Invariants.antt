use Rattle.feasible_tension.proofs.tests.finds_potentials_and_circuits.Given as goal

abbrev pub ghosts-passed : goal.ghosts-passed
ghosts-passed g a = record { name = a.blank.name; parts = a.blank.parts }
