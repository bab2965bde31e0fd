use Rattle.mono_top.proofs.BetweenLemmas.{flow_text_fits}
use Rattle.mono_top.proofs.between.flow_reply.Goals as goal

pub print_flow-requires : goal.print_flow-requires
print_flow-requires g c =
    flow_text_fits c.args.model.now.entries _ _ c.in_ok-found.found (rw c.in_ok-network.ensures at c.in_ok-found.ensures.found)
