use Rattle.std.proofs.Common.{◌∙◌}
use Rattle.ground_net.specs.Ground.{listings}
use Rattle.ground_net.proofs.Building.{built-all, built-is_grounded}
use Rattle.ground_net.proofs.build.ground.Goals as goal

pub of_parts-requires : goal.of_parts-requires
of_parts-requires c =
    built-is_grounded c.args.m.now.entries c.add_model_arcs.new.net (listings c.add_model_arcs.new.curves.items)
    c.args.m.now.formed c.in_ok-add_model_arcs.ensures

pub returns : goal.returns
returns c =
    c.of_parts.ensures
    ∙ built-all c.args.m.now.entries c.add_model_arcs.new.net (listings c.add_model_arcs.new.curves.items) c.in_ok-add_model_arcs.ensures
