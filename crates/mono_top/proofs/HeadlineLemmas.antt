-- From a certified text to what it claims. A valid certificate says what its kind says; and where flow is refused no
-- other kind than the cut is valid, since the others show a feasible flow.
use Rattle.std.proofs.Common.{◌≡◌, ◌↔◌, ℕ, ◌≤◌, List, Option, inl, inr, arith}
use Rattle.theory.specs.Network.{Network, IsNetwork}
use Rattle.theory.specs.Grounded.{Entries, grounded}
use Rattle.theory.specs.Best.{FlowIsRefused, TensionIsRefused}
use Rattle.theory.specs.Certificate.{Certificate}
use Rattle.theory.specs.Certificate.Certificate.{optimal, cut, circuit}
use Rattle.theory.specs.CertificateLaws.{Says}
use Rattle.theory.proofs.Certificates.{certificate_says}
use Rattle.theory.proofs.Refusals.{negative_cut, negative_circuit}
use Rattle.theory.proofs.GroundedLaw.{grounded_is_network}
use Rattle.outside_io.specs.Sink.{Grew}
use Rattle.model_text.specs.Model.{IsWellFormed}
use Rattle.model_text.specs.declared.scale.Scale.{Scale}
use Rattle.mono_top.specs.Solves.{IsCertified, status_of}
use Rattle.cert_text.specs.declared.feasible.FlowPart.{FlowPart}
use Rattle.cert_text.specs.declared.feasible.FlowPart.TheVariants.{Yes as YesFlow, No as NoFlow}
use Rattle.cert_text.specs.declared.feasible.TensionPart.{TensionPart}
use Rattle.cert_text.specs.declared.feasible.TensionPart.TheVariants.{Yes as YesTension, No as NoTension}
use Rattle.mono_top.specs.Checks.{IsValidText}
use Rattle.kilter_solver.specs.FeasibleParts.{IsTensionPart, FlowShows}
use Rattle.mono_top.specs.FindsFeasible.{FindsFeasible, status_of_parts}
use Rattle.mono_top.specs.Headline.{Concludes, ConcludesCheck, ConcludesFeasible}
use Rattle.mono_top.proofs.CheckLemmas.{IsJudged}
use Rattle.mono_top.specs.declared.status.Status.{Status}
use Rattle.mono_top.specs.declared.status.Status.TheVariants.{Cut, Circuit}

one_is_one : 1 ≤ 1
one_is_one = omega arith

-- the cut is the kind that refuses flow, the circuit the kind that has a flow and refuses tension
pub record IsKindOf (net : Network) (status : Status) : Type 0 where
  pub cut_is : (status ≡ Cut) ↔ FlowIsRefused net
  pub circuit_is : (status ≡ Circuit) ↔ ((¬ FlowIsRefused net) × TensionIsRefused net)

pub kind_is : (net : Network) (c : Certificate) (status : Status) → Says net c → status ≡ status_of c → IsKindOf net status
kind_is net (optimal x u cost value) status says is = record {
  cut_is = (λ e. absurd cc, λ none. absurd (none 1 x one_is_one says.flow));
  circuit_is = (λ e. absurd cc, λ both. absurd (both.1 1 u one_is_one says.potential));
}
kind_is net (cut side capacity) status says is = record {
  cut_is = (λ e. says, λ none. is);
  circuit_is = (λ e. absurd cc, λ both. absurd (both.0 says));
}
kind_is net (circuit x walk span) status says is = record {
  cut_is = (λ e. absurd cc, λ none. absurd (none 1 x one_is_one says.flow));
  circuit_is = (λ e. (λ none. none 1 x one_is_one says.flow, says.no_potential), λ both. is);
}

pub concludes : (s : Scale) (m : Entries) (status : Status) (text : List ℕ) (old new : Option (List ℕ)) → IsWellFormed m → IsCertified s m status text → Grew old new text
    → Concludes s m status old new
concludes s m status text old new formed certified grew =
    let says = certificate_says (grounded m) certified.certificate (grounded_is_network m formed.model) certified.valid in
    record {
      text = text;
      certified = certified;
      written = grew;
      says = says;
      flow_refused = (kind_is (grounded m) certified.certificate status says certified.kind).cut_is;
      tension_refused = (kind_is (grounded m) certified.certificate status says certified.kind).circuit_is;
    }

pub concludes_check : (s : Scale) (m : Entries) (bytes : List ℕ) (status : Status) → IsWellFormed m → IsJudged s m bytes status → ConcludesCheck s m bytes status
concludes_check s m bytes status formed judged =
    let says : (valid : IsValidText s m bytes) → Says (grounded m) valid.certificate =
    λ valid. certificate_says (grounded m) valid.certificate (grounded_is_network m formed.model) valid.valid in
    elim judged [
      | inl (done, valid) ↦ record {
        accepted = (λ e. valid, λ e. done);
        rejected = (λ e. absurd cc, λ invalid. absurd (invalid valid));
        says = says;
      }
      | inr (rejected, invalid) ↦ record {
        accepted = (λ e. absurd cc, λ valid. absurd (invalid valid));
        rejected = (λ e. invalid, λ e. rejected);
        says = says;
      }
    ]

-- each part says whether there is something feasible
pub concludes_feasible : (s : Scale) (m : Entries) (status : Status) (text : List ℕ) → IsWellFormed m → FindsFeasible s m status text → ConcludesFeasible m status
concludes_feasible s m status text formed finds =
    by_parts finds.flow finds.tension finds.flow_is.shows finds.tension_is finds.kind
  where
    net : Network
    net = grounded m

    is_network : IsNetwork net
    is_network = grounded_is_network m formed.model

    by_parts : (flow : FlowPart) (tension : TensionPart) → FlowShows net flow → IsTensionPart net tension → status ≡ status_of_parts flow tension
        → ConcludesFeasible m status
    by_parts (NoFlow side capacity) tension no_flow shown is =
        let refused = negative_cut net side is_network no_flow.0 in
        record {
          flow_refused = (λ e. refused, λ none. is);
          tension_refused = (λ e. absurd cc, λ both. absurd (both.0 refused));
          neither_refused = (λ e. absurd cc, λ both. absurd (both.0 refused));
        }
    by_parts (YesFlow x) (NoTension walk span) flow no_tension is =
        let refused = negative_circuit net walk is_network no_tension.fits.0.there no_tension.shows.0 in
        let some : ¬ FlowIsRefused net = λ none. none 1 x one_is_one flow in
        record {
          flow_refused = (λ e. absurd cc, λ none. absurd (some none));
          tension_refused = (λ e. (some, refused), λ both. is);
          neither_refused = (λ e. absurd cc, λ both. absurd (both.1 refused));
        }
    by_parts (YesFlow x) (YesTension u) flow tension is =
        let some : ¬ FlowIsRefused net = λ none. none 1 x one_is_one flow in
        let also : ¬ TensionIsRefused net = λ none. none 1 u one_is_one tension.shows in
        record {
          flow_refused = (λ e. absurd cc, λ none. absurd (some none));
          tension_refused = (λ e. absurd cc, λ both. absurd (also both.1));
          neither_refused = (λ e. (some, also), λ both. is);
        }
