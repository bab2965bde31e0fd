use Rattle.quick_start.proofs.tests.draws_again.Given as goal

abbrev pub ghosts-redrawn : goal.ghosts-redrawn
ghosts-redrawn g a = record { name = a.blank.name; parts = a.blank.parts }
