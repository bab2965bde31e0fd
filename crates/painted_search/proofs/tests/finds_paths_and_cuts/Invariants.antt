use Rattle.painted_search.proofs.tests.finds_paths_and_cuts.Given as goal

abbrev pub ghosts-searched : goal.ghosts-searched
ghosts-searched g a = record { name = a.blank.name; parts = a.blank.parts }
