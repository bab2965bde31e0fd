-- What is found says what the laws of cuts and paths say of it.
use Rattle.std.proofs.Common.{ℕ, ◌<◌, ◌≤◌, pos, arith}
use Rattle.theory.specs.Network.{Network, IsNetwork}
use Rattle.theory.proofs.Refusals.{negative_cut, negative_circuit}
use Rattle.path_cut.specs.GreatestFlow.{HasReturn, FlowHasNoTop}
use Rattle.path_cut.specs.GreatestTension.{TensionHasNoTop}
use Rattle.path_cut.specs.Found.{IsFlowFound, IsTensionFound}
use Rattle.path_cut.specs.Says.{FlowSays, TensionSays, LacksGreatestFlow, LacksGreatestTension}
use Rattle.path_cut.specs.declared.flow_found.FlowFound.{FlowFound}
use Rattle.path_cut.specs.declared.flow_found.FlowFound.TheVariants.{Greatest as GreatestFlow, Unbounded as NoTopFlow, Refused as NoFlow}
use Rattle.path_cut.specs.declared.tension_found.TensionFound.{TensionFound}
use Rattle.path_cut.specs.declared.tension_found.TensionFound.TheVariants.{Greatest as GreatestTension, Unbounded as NoTopTension, Refused as NoTension}
use Rattle.path_cut.proofs.FlowBound.{flow-cut, flow-exact}
use Rattle.path_cut.proofs.OpenPath.{open-path}
use Rattle.path_cut.proofs.TensionBound.{tension-path, tension-exact}
use Rattle.path_cut.proofs.Lifting.{open-cut}

pub flow-says : (net : Network) (found : FlowFound) → IsNetwork net → HasReturn net → IsFlowFound net found → FlowSays net found
flow-says net (GreatestFlow t x side) good returns is = flow-cut net side x t good returns is.feasible is.carries is.cut
flow-says net (NoTopFlow x walk) good returns is = open-path net walk x good returns is.0 is.1
flow-says net (NoFlow side sum) good returns is = negative_cut net side good is.1

pub tension-says : (net : Network) (from to : ℕ) (found : TensionFound) → IsNetwork net → from < net.nodes → to < net.nodes
    → IsTensionFound net from to found → TensionSays net from to found
tension-says net from to (GreatestTension t u walk) good from_there to_there is = tension-path net walk from to u t is.feasible is.rises is.path
tension-says net from to (NoTopTension u side) good from_there to_there is = open-cut net side from to u good from_there to_there is.0 is.2
tension-says net from to (NoTension walk sum) good from_there to_there is = negative_circuit net walk good is.0 is.1

one_is_one : 1 ≤ 1
one_is_one = omega arith

pub flow-lacks : (net : Network) → FlowHasNoTop net → LacksGreatestFlow net
flow-lacks net endless =
    let some = endless (pos 0) in
    record { some = (1, some.0, one_is_one, some.1); none = λ t top. (flow-exact net).not_both t top endless }

pub tension-lacks : (net : Network) (from to : ℕ) → TensionHasNoTop net from to → LacksGreatestTension net from to
tension-lacks net from to endless =
    let some = endless (pos 0) in
    record { some = (1, some.0, one_is_one, some.1); none = λ t top. (tension-exact net from to).not_both t top endless }
