use Rattle.std.proofs.Common.{◌≡◌, ◌++◌, take}
use Rattle.std.specs.List.{flat_map}
use Rattle.cert_text.specs.CertificateText.{step_line}
use Rattle.mono_top.proofs.between_text.append_walk.Given as goal

abbrev pub invariant-loop-step : goal.invariant-loop-step
invariant-loop-step l = (l.out.items ≡ l.initial.out.items ++ flat_map (step_line l.model.entries) (take l.step-index l.walk))
