-- What is found of feasibility: a feasible flow or a cut that refuses every flow, and a feasible potential or a circuit that
-- refuses every potential.
use Rattle.std.specs.Prelude.{◌≡◌}
use Rattle.theory.specs.Network.{Network}
use Rattle.theory.specs.Feasible.{IsFeasibleFlow, IsFeasiblePotential}
use Rattle.theory.specs.Cut.{IsNegativeCut, cut_sum}
use Rattle.theory.specs.Circuit.{IsNegativeCircuit, span_sum}
use Rattle.cert_text.specs.FeasibilityText.{FlowFits, TensionFits}
use Rattle.cert_text.specs.declared.feasible.FlowPart.{FlowPart}
use Rattle.cert_text.specs.declared.feasible.FlowPart.TheVariants.{Yes as YesFlow, No as NoFlow}
use Rattle.cert_text.specs.declared.feasible.TensionPart.{TensionPart}
use Rattle.cert_text.specs.declared.feasible.TensionPart.TheVariants.{Yes as YesTension, No as NoTension}

abbrev pub FlowShows : Network → FlowPart → Type 0
FlowShows net (YesFlow x) = IsFeasibleFlow 1 net x
FlowShows net (NoFlow side capacity) = IsNegativeCut net side × (capacity ≡ cut_sum net side)

abbrev pub TensionShows : Network → TensionPart → Type 0
TensionShows net (YesTension u) = IsFeasiblePotential 1 net u
TensionShows net (NoTension walk span) = IsNegativeCircuit net walk × (span ≡ span_sum net walk)

-- a flow part fits the network and shows what it says
pub record IsFlowPart (net : Network) (flow : FlowPart) : Type 0 where
  pub fits : FlowFits net flow
  pub shows : FlowShows net flow

pub record IsTensionPart (net : Network) (tension : TensionPart) : Type 0 where
  pub fits : TensionFits net tension
  pub shows : TensionShows net tension

abbrev pub IsNoFlow : FlowPart → Type 0
IsNoFlow (YesFlow x) = ⊥
IsNoFlow (NoFlow side capacity) = Unit {0}

abbrev pub IsNoTension : TensionPart → Type 0
IsNoTension (YesTension u) = ⊥
IsNoTension (NoTension walk span) = Unit {0}
