-- The kind of a valid certificate is the one right kind. What it says refuses flow, or shows a feasible flow and refuses
-- potentials, or shows both a feasible flow and a feasible potential; of these three no two hold together.
use Rattle.std.proofs.Common.{◌≡◌, ◌≤◌, refl, sym, arith}
use Rattle.std.specs.Prelude.{◌↔◌, Result, Ok, Err, IfOk}
use Rattle.theory.specs.Network.{Network, IsNetwork}
use Rattle.theory.specs.Best.{FlowIsRefused, TensionIsRefused}
use Rattle.theory.specs.Certificate.{Certificate, BareCertificate, IsValid, IsValidBare}
use Rattle.theory.specs.Certificate.BareCertificate.{optimal_pair, negative_cut, negative_circuit}
use Rattle.theory.specs.Certificate.Certificate.{optimal, cut, circuit}
use Rattle.theory.specs.CertificateLaws.{Says}
use Rattle.theory.proofs.Certificates.{certificate_says}
use Rattle.theory.proofs.Refusals.{negative_cut as refused_by_cut, negative_circuit as refused_by_circuit}
use Rattle.cert_text.specs.Shown.{shown}
use Rattle.cert_text.specs.declared.certificate.Certificate.{Certificate as Printed}
use Rattle.cert_text.specs.declared.feasible.FlowPart.{FlowPart}
use Rattle.cert_text.specs.declared.feasible.FlowPart.TheVariants.{Yes as YesFlow, No as NoFlow}
use Rattle.cert_text.specs.declared.feasible.TensionPart.{TensionPart}
use Rattle.cert_text.specs.declared.feasible.TensionPart.TheVariants.{Yes as YesTension, No as NoTension}
use Rattle.painted_search.specs.Room.{Room}
use Rattle.kilter_solver.specs.Kind.{IsRightKind}
use Rattle.kilter_solver.specs.Left.{IsKindFor, kind_of_bare, left_in}
use Rattle.kilter_solver.specs.declared.kind.Kind.{Kind}
use Rattle.kilter_solver.specs.declared.kind.Kind.TheVariants.{Optimal, Cut, Circuit}
use Rattle.kilter_solver.proofs.Pairs.{pair-flow, pair-potential}
use Rattle.kilter_solver.specs.FeasibleParts.{IsFlowPart, IsTensionPart, IsNoFlow, IsNoTension}
use Rattle.kilter_solver.specs.declared.feasible.FeasibleParts.{FeasibleParts}

one_is_one : 1 ≤ 1
one_is_one = omega arith

pub kind_is : (net : Network) (c : Certificate) → Says net c → IsRightKind net c
kind_is net (optimal x u cost value) says =
    let flow : ¬ FlowIsRefused net = λ none. none 1 x one_is_one says.flow in
    let potential : ¬ TensionIsRefused net = λ none. none 1 u one_is_one says.potential in
    record {
      optimal_is = (λ e. (flow, potential), λ both. tt);
      cut_is = (λ e. absurd e, λ none. absurd (flow none));
      circuit_is = (λ e. absurd e, λ both. absurd (potential both.1));
    }
kind_is net (cut side capacity) says = record {
  optimal_is = (λ e. absurd e, λ both. absurd (both.0 says));
  cut_is = (λ e. says, λ none. tt);
  circuit_is = (λ e. absurd e, λ both. absurd (both.0 says));
}
kind_is net (circuit x walk span) says =
    let flow : ¬ FlowIsRefused net = λ none. none 1 x one_is_one says.flow in
    record {
      optimal_is = (λ e. absurd e, λ both. absurd (both.1 says.no_potential));
      cut_is = (λ e. absurd e, λ none. absurd (flow none));
      circuit_is = (λ e. (flow, says.no_potential), λ both. tt);
    }

-- ---- the kind of what a solve leaves

optimal_no_cut : Optimal ≡ Cut → ⊥
optimal_no_cut is = cc

optimal_no_circuit : Optimal ≡ Circuit → ⊥
optimal_no_circuit is = cc

cut_no_circuit : Cut ≡ Circuit → ⊥
cut_no_circuit is = cc

module _ (net : Network) (good : IsNetwork net) where
  kind_of_evidence : (b : BareCertificate) → IsValidBare net b → IsKindFor net (kind_of_bare b)
  kind_of_evidence (optimal_pair x u) valid =
      let flow : ¬ FlowIsRefused net = λ none. none 1 x one_is_one (pair-flow net x u valid.fits.0 valid.shows) in
      let potential : ¬ TensionIsRefused net = λ none. none 1 u one_is_one (pair-potential net x u good valid.fits.1 valid.shows) in
      record {
        optimal_is = (λ e. (flow, potential), λ both. refl);
        cut_is = (λ e. absurd (optimal_no_cut e), λ none. absurd (flow none));
        circuit_is = (λ e. absurd (optimal_no_circuit e), λ both. absurd (potential both.1));
      }
  kind_of_evidence (negative_cut side) valid =
      let none = refused_by_cut net side good valid.shows in
      record {
        optimal_is = (λ e. absurd (optimal_no_cut (sym e)), λ both. absurd (both.0 none));
        cut_is = (λ e. none, λ refused. refl);
        circuit_is = (λ e. absurd (cut_no_circuit e), λ both. absurd (both.0 none));
      }
  kind_of_evidence (negative_circuit x walk) valid =
      let flow : ¬ FlowIsRefused net = λ none. none 1 x one_is_one valid.shows.0 in
      let none = refused_by_circuit net walk good valid.fits.1.there valid.shows.1 in
      record {
        optimal_is = (λ e. absurd (optimal_no_circuit (sym e)), λ both. absurd (both.1 none));
        cut_is = (λ e. absurd (cut_no_circuit (sym e)), λ refused. absurd (flow refused));
        circuit_is = (λ e. (flow, none), λ both. refl);
      }

  pub kind_found : (kind : Kind) (room : Room) → IsValidBare net (left_in kind room) → IsKindFor net kind
  kind_found Optimal room valid = kind_of_evidence (left_in Optimal room) valid
  kind_found Cut room valid = kind_of_evidence (left_in Cut room) valid
  kind_found Circuit room valid = kind_of_evidence (left_in Circuit room) valid

  pub says_where_certified : (c : Certificate) → IsValid net c → Says net c
  says_where_certified c valid = certificate_says net c good valid

  pub kind_where_certified : (c : Certificate) → IsValid net c → IsRightKind net c
  kind_where_certified c valid = kind_is net c (certificate_says net c good valid)

  pub says_where_valid : {E : Type 0} (r : Result Printed E) → IfOk r (λ c. IsValid net (shown c)) → IfOk r (λ c. Says net (shown c))
  says_where_valid (Ok c) valid = certificate_says net (shown c) good valid
  says_where_valid (Err e) valid = tt

  pub kind_where_valid : {E : Type 0} (r : Result Printed E) → IfOk r (λ c. IsValid net (shown c)) → IfOk r (λ c. IsRightKind net (shown c))
  kind_where_valid (Ok c) valid = kind_is net (shown c) (certificate_says net (shown c) good valid)
  kind_where_valid (Err e) valid = tt

  -- ---- the parts of feasibility

  flow_kind : (flow : FlowPart) → IsFlowPart net flow → IsNoFlow flow ↔ FlowIsRefused net
  flow_kind (YesFlow x) part = (λ e. absurd e, λ none. none 1 x one_is_one part.shows)
  flow_kind (NoFlow side capacity) part = (λ e. refused_by_cut net side good part.shows.0, λ none. tt)

  tension_kind : (tension : TensionPart) → IsTensionPart net tension → IsNoTension tension ↔ TensionIsRefused net
  tension_kind (YesTension u) part = (λ e. absurd e, λ none. none 1 u one_is_one part.shows)
  tension_kind (NoTension walk span) part = (λ e. refused_by_circuit net walk good part.fits.0.there part.shows.0, λ none. tt)

  pub flow_kind_where : {E : Type 0} (r : Result FeasibleParts E) → IfOk r (λ found. IsFlowPart net found.flow)
      → IfOk r (λ found. IsNoFlow found.flow ↔ FlowIsRefused net)
  flow_kind_where (Ok found) part = flow_kind found.flow part
  flow_kind_where (Err e) part = tt

  pub tension_kind_where : {E : Type 0} (r : Result FeasibleParts E) → IfOk r (λ found. IsTensionPart net found.tension)
      → IfOk r (λ found. IsNoTension found.tension ↔ TensionIsRefused net)
  tension_kind_where (Ok found) part = tension_kind found.tension part
  tension_kind_where (Err e) part = tt
