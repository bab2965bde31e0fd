use Rattle.std.proofs.Common.{◌∙◌, ◌++◌, ◌∷◌, [], ap, arith}
use Rattle.ground_net.specs.Ground.{listings}
use Rattle.ground_net.proofs.Building.{built-model}
use Rattle.ground_net.proofs.build.add_model_arcs.Goals as goal

pub loop-j-preserved : goal.loop-j-preserved
loop-j-preserved c =
    built-model c.args.m.now.entries c.loop-j.j c.loop-j.net c.add_arc.new.net (listings c.loop-j.curves.items)
    (listings c.add_arc.new.curves.items) _ (omega arith) c.loop-j.invariant c.in_ok-add_arc.ensures.nodes
    (rw (← c.arc_from.ensures, ← c.arc_to.ensures) c.in_ok-add_arc.ensures.arcs)
    (c.in_ok-add_arc.ensures.curves ∙ ap (λ last. listings c.loop-j.curves.items ++ last ∷ []) c.arc_curve.ensures)
