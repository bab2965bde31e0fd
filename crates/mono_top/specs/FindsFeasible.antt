-- What `feasible` answers to a model: a feasible flow or a cut that refuses every flow, and a feasible potential or a circuit
-- that refuses every potential.
use Rattle.std.specs.Prelude.{◌≡◌, ℕ, List}
use Rattle.theory.specs.Grounded.{Entries, grounded}
use Rattle.model_text.specs.declared.scale.Scale.{Scale}
use Rattle.cert_text.specs.FeasibilityText.{feasibility_text}
use Rattle.cert_text.specs.declared.feasible.FlowPart.{FlowPart}
use Rattle.cert_text.specs.declared.feasible.FlowPart.TheVariants.{Yes as YesFlow, No as NoFlow}
use Rattle.cert_text.specs.declared.feasible.TensionPart.{TensionPart}
use Rattle.cert_text.specs.declared.feasible.TensionPart.TheVariants.{Yes as YesTension, No as NoTension}
use Rattle.kilter_solver.specs.FeasibleParts.{IsFlowPart, IsTensionPart}
use Rattle.mono_top.specs.declared.status.Status.{Status}
use Rattle.mono_top.specs.declared.status.Status.TheVariants.{Done, Cut, Circuit}

-- the first part that refuses gives the status
abbrev pub status_of_parts : FlowPart → TensionPart → Status
status_of_parts (NoFlow side capacity) tension = Cut
status_of_parts (YesFlow x) (NoTension walk span) = Circuit
status_of_parts (YesFlow x) (YesTension u) = Done

pub record FindsFeasible (s : Scale) (m : Entries) (status : Status) (text : List ℕ) : Type 0 where
  pub flow : FlowPart
  pub tension : TensionPart
  pub flow_is : IsFlowPart (grounded m) flow
  pub tension_is : IsTensionPart (grounded m) tension
  pub kind : status ≡ status_of_parts flow tension
  pub is : text ≡ feasibility_text s m flow tension
