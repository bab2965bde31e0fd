use Rattle.quick_start.proofs.tests.draws.Given as goal

abbrev pub ghosts-drawn : goal.ghosts-drawn
ghosts-drawn g a = record { name = a.blank.name; parts = a.blank.parts }
