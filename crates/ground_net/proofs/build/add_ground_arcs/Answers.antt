use Rattle.std.proofs.Common.{◌∙◌, ◌++◌, ◌∷◌, [], ap, arith}
use Rattle.ground_net.specs.Ground.{listings}
use Rattle.ground_net.proofs.Building.{built-ground}
use Rattle.ground_net.proofs.build.add_ground_arcs.Goals as goal

pub loop-i-preserved : goal.loop-i-preserved
loop-i-preserved c =
    built-ground c.args.m.now.entries c.loop-i.i c.loop-i.net c.add_arc.new.net (listings c.loop-i.curves.items)
    (listings c.add_arc.new.curves.items) _ (omega arith) c.loop-i.invariant
    c.in_ok-add_arc.ensures.nodes c.in_ok-add_arc.ensures.arcs
    (c.in_ok-add_arc.ensures.curves ∙ ap (λ last. listings c.loop-i.curves.items ++ last ∷ []) c.supply.ensures)
