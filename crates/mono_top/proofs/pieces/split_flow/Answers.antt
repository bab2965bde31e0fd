use Rattle.std.proofs.Common.{◌≡◌, ◌∙◌, ap, subst, Err}
use Rattle.theory.specs.Grounded.{grounded}
use Rattle.theory.specs.Network.{Network, «at»}
use Rattle.net_incidence.specs.Graph.{network}
use Rattle.mono_top.proofs.PiecesLemmas.{pieces_of_net, none_unbalanced}
use Rattle.mono_top.proofs.pieces.split_flow.Goals as goal

-- the flow is conserved
pub unreachable-requires : goal.unreachable-requires
unreachable-requires c =
    let net = grounded c.args.model.now.entries in
    let same : network c.net.result.now net.curves ≡ net =
    subst (λ (n : Network). network c.net.result.now n.curves ≡ n) c.requires.network c.net.ensures in
    let node = c.in-Err-NotConserved.field-0-0 in
    none_unbalanced c.net.result.now net («at» c.args.flow.now) node.0 same c.requires.conserved
    ((c.pieces.ensures.not_conserved node.0).0 (c.in-Err-NotConserved.is ∙ ap Err c.in-Err-NotConserved.field-0-is))

pub returns-in_ok-print_pieces-in-Ok : goal.returns-in_ok-print_pieces-in-Ok
returns-in_ok-print_pieces-in-Ok c =
    let net = grounded c.args.model.now.entries in
    let same : network c.net.result.now net.curves ≡ net =
    subst (λ (n : Network). network c.net.result.now n.curves ≡ n) c.requires.network c.net.ensures in
    (c.in-Ok.list, pieces_of_net c.net.result.now net («at» c.args.flow.now) c.in-Ok.list same c.in-Ok.ensures.pieces, c.in_ok-print_pieces-in-Ok.ensures)
