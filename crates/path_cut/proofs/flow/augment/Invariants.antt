use Rattle.std.proofs.Common.{◌≡◌, ◌≤◌, pos, ◌-ℤ◌, map}
use Rattle.theory.specs.Sums.{positive_part}
use Rattle.theory.specs.Network.{«at»}
use Rattle.net_incidence.specs.WithoutBases.{without_bases}
use Rattle.painted_search.specs.Fits.{Fits}
use Rattle.path_cut.specs.GreatestFlow.{return_arc}
use Rattle.path_cut.specs.Augmenting.{IsAugmented, top_most}
use Rattle.path_cut.proofs.flow.augment.Given as goal

abbrev pub invariant-loop-amount : goal.invariant-loop-amount
invariant-loop-amount g l = record {
  fits : Fits l.net l.work;
  augmented : IsAugmented (without_bases l.net (map g.C.Monotone.items l.curves)) l.initial.work.flows l.work.flows;
  potentials : l.work.potentials ≡ l.initial.work.potentials;
  no_fewer : l.initial.steps ≤ l.steps;
}

abbrev pub decreases-loop-amount : goal.decreases-loop-amount
decreases-loop-amount g l =
    let net = without_bases l.net (map g.C.Monotone.items l.curves) in
    positive_part (pos (top_most net) -ℤ «at» l.work.flows (return_arc net))
