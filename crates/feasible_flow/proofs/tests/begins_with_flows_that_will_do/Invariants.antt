use Rattle.feasible_flow.proofs.tests.begins_with_flows_that_will_do.Given as goal

abbrev pub ghosts-passed : goal.ghosts-passed
ghosts-passed g a = record { name = a.blank.name; parts = a.blank.parts }
