use Rattle.mono_top.proofs.torn_tests.steadily.Given as goal

abbrev pub ghosts-counted_steadily : goal.ghosts-counted_steadily
ghosts-counted_steadily a = record { name = a.blank.name; parts = a.blank.parts }
