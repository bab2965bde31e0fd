use Rattle.feasible_flow.proofs.tests.finds_cuts.Given as goal

abbrev pub ghosts-passed : goal.ghosts-passed
ghosts-passed g a = record { name = a.blank.name; parts = a.blank.parts }
