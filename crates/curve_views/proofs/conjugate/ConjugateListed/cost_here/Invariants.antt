use Rattle.curve_views.proofs.conjugate.ConjugateListed.cost_here.Given as goal

abbrev pub ghosts-listed_cost : goal.ghosts-listed_cost
ghosts-listed_cost g a = record { name = a.blank.name; parts = a.blank.parts }
