use Rattle.mono_top.proofs.BetweenLemmas.{tension_text_fits}
use Rattle.mono_top.proofs.between.tension_reply.Goals as goal

pub print_tension-requires : goal.print_tension-requires
print_tension-requires g c =
    tension_text_fits c.args.model.now.entries _ _ c.in_ok-found.found (rw c.in_ok-network.ensures at c.in_ok-found.ensures.found)
