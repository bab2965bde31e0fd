-- What a certificate that fits a model has, and what the parts of a feasibility text have.
use Rattle.std.proofs.Common.{◌≡◌, ℕ, ◌+◌, ◌<◌, length, subst, ◌∙◌, arith}
use Rattle.theory.specs.Circuit.{step}
use Rattle.theory.specs.Grounded.{Entries, grounded}
use Rattle.theory.specs.Certificate.{Fits}
use Rattle.theory.proofs.GroundedLaw.{length-grounded_arcs}
use Rattle.cert_text.specs.Shown.{shown}
use Rattle.cert_text.specs.FeasibilityText.{FlowFits, TensionFits}
use Rattle.cert_text.specs.declared.certificate.Certificate.{Certificate}
use Rattle.cert_text.specs.declared.certificate.Certificate.TheVariants.{Optimal, Circuit}
use Rattle.cert_text.specs.declared.feasible.FlowPart.{FlowPart}
use Rattle.cert_text.specs.declared.feasible.FlowPart.TheVariants.{Yes as YesFlow}
use Rattle.cert_text.specs.declared.feasible.TensionPart.{TensionPart}
use Rattle.cert_text.specs.declared.feasible.TensionPart.TheVariants.{No as NoTension}

module _ (m : Entries) (c : Certificate) (fits : Fits (grounded m) (shown c)) where
  known : (d : Certificate) → c ≡ d → Fits (grounded m) (shown d)
  known d is = subst (λ e. Fits (grounded m) (shown e)) is fits

  pub optimal_flows : (x u : _) (cost value : _) → c ≡ Optimal x u cost value → length x ≡ length m.nodes + length m.arcs
  optimal_flows x u cost value is = (known (Optimal x u cost value) is).0.0.one_each ∙ length-grounded_arcs m

  pub circuit_flows : (x : _) (walk : _) (span : _) → c ≡ Circuit x walk span → length x ≡ length m.nodes + length m.arcs
  circuit_flows x walk span is = (known (Circuit x walk span) is).0.0.one_each ∙ length-grounded_arcs m

  pub circuit_walk : (x : _) (walk : _) (span : _) → c ≡ Circuit x walk span → (k : ℕ) → k < length walk
      → (step walk k).arc.0 < length m.nodes + length m.arcs
  circuit_walk x walk span is k here = omega (arith, (known (Circuit x walk span) is).0.1.there k here, length-grounded_arcs m)

-- ---- the parts of a feasibility text

pub yes_flows : (m : Entries) (flow : FlowPart) → FlowFits (grounded m) flow → (x : _) → flow ≡ YesFlow x → length x ≡ length m.nodes + length m.arcs
yes_flows m flow fits x is =
    let fitting = subst (λ (f : FlowPart). FlowFits (grounded m) f) is fits in
    fitting.one_each ∙ length-grounded_arcs m

pub no_walk : (m : Entries) (tension : TensionPart) → TensionFits (grounded m) tension → (walk span : _) → tension ≡ NoTension walk span
    → (k : ℕ) → k < length walk → (step walk k).arc.0 < length m.nodes + length m.arcs
no_walk m tension fits walk span is k there =
    let fitting = subst (λ (t : TensionPart). TensionFits (grounded m) t) is fits in
    omega (arith, fitting.0.there k there, length-grounded_arcs m)
