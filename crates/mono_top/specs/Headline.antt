-- What calls conclude of a model.
--
-- A call to `solve` writes the text of exactly one certificate, valid, of the one right kind.
-- What the certificate says is a claim over all fractions: an optimum, or that there is no feasible flow, or that no plan
-- is bounded.
use Rattle.std.specs.Prelude.{◌≡◌, ◌↔◌, ℕ, ℤ, List, Option}
use Rattle.theory.specs.Grounded.{Entries, grounded}
use Rattle.theory.specs.Certificate.{Certificate, IsValid}
use Rattle.theory.specs.Best.{FlowIsRefused, TensionIsRefused}
use Rattle.theory.specs.CertificateLaws.{Says}
use Rattle.model_text.specs.declared.scale.Scale.{Scale}
use Rattle.outside_io.specs.Sink.{Grew}
use Rattle.path_cut.specs.GreatestFlow.{IsGreatestFlow, FlowHasNoTop}
use Rattle.path_cut.specs.GreatestTension.{IsGreatestTension, TensionHasNoTop}
use Rattle.path_cut.specs.Returned.{returned}
use Rattle.path_cut.specs.Says.{FlowSays, TensionSays}
use Rattle.mono_top.specs.Between.{FindsFlow, FindsTension}
use Rattle.warm_solve.specs.ChangesText.{Change}
use Rattle.mono_top.specs.Resolves.{Resolves, all_changed}
use Rattle.mono_top.specs.Solves.{IsCertified}
use Rattle.mono_top.specs.Checks.{IsValidText}
use Rattle.mono_top.specs.declared.status.Status.{Status}
use Rattle.mono_top.specs.declared.status.Status.TheVariants.{Done, Cut, Circuit, Rejected, Unbounded}

pub record Concludes (s : Scale) (m : Entries) (status : Status) (old new : Option (List ℕ)) : Type 0 where
  pub text : List ℕ
  pub certified : IsCertified s m status text
  pub written : Grew old new text
  pub says : Says (grounded m) certified.certificate
  pub flow_refused : (status ≡ Cut) ↔ FlowIsRefused (grounded m)
  pub tension_refused : (status ≡ Circuit) ↔ ((¬ FlowIsRefused (grounded m)) × TensionIsRefused (grounded m))

-- A call to `resolve` writes the lines of the states and the text of the last certificate. That one is valid for the network with all changes, and
-- of its one right kind.
pub record ConcludesResolve (s : Scale) (m : Entries) (changes : List Change) (status : Status) (old new : Option (List ℕ)) : Type 0 where
  pub text : List ℕ
  pub resolves : Resolves s m changes status text
  pub written : Grew old new text
  pub certificate : Certificate
  pub valid : IsValid (all_changed (grounded m) changes) certificate
  pub says : Says (all_changed (grounded m) changes) certificate
  pub flow_refused : (status ≡ Cut) ↔ FlowIsRefused (all_changed (grounded m) changes)
  pub tension_refused : (status ≡ Circuit) ↔ ((¬ FlowIsRefused (all_changed (grounded m) changes)) × TensionIsRefused (all_changed (grounded m) changes))

-- What a call to `check` concludes of a model and a text: it is accepted exactly where it is the text of a valid
-- certificate, and then what the certificate says is true.
pub record ConcludesCheck (s : Scale) (m : Entries) (text : List ℕ) (status : Status) : Type 0 where
  pub accepted : (status ≡ Done) ↔ IsValidText s m text
  pub rejected : (status ≡ Rejected) ↔ (¬ IsValidText s m text)
  pub says : (valid : IsValidText s m text) → Says (grounded m) valid.certificate

-- What a call to `feasible` concludes of a model: whether there are a feasible flow and a feasible potential, over any
-- fractions.
pub record ConcludesFeasible (m : Entries) (status : Status) : Type 0 where
  pub flow_refused : (status ≡ Cut) ↔ FlowIsRefused (grounded m)
  pub tension_refused : (status ≡ Circuit) ↔ ((¬ FlowIsRefused (grounded m)) × TensionIsRefused (grounded m))
  pub neither_refused : (status ≡ Done) ↔ ((¬ FlowIsRefused (grounded m)) × (¬ TensionIsRefused (grounded m)))

-- What a call to `maxflow` concludes of two nodes of a model: what was found, and what it says over all fractions. Each of its three statuses comes
-- exactly where it says so.
pub record ConcludesFlow (s : Scale) (m : Entries) (from to : ℕ) (status : Status) (old new : Option (List ℕ)) : Type 0 where
  pub text : List ℕ
  pub finds : FindsFlow s m from to status text
  pub written : Grew old new text
  pub says : FlowSays (returned (grounded m) from to) finds.found
  pub greatest : (status ≡ Done) ↔ ((t : ℤ) × IsGreatestFlow (returned (grounded m) from to) t)
  pub unbounded : (status ≡ Unbounded) ↔ FlowHasNoTop (returned (grounded m) from to)
  pub refused : (status ≡ Cut) ↔ FlowIsRefused (returned (grounded m) from to)

-- The same of a call to `maxtension`.
pub record ConcludesTension (s : Scale) (m : Entries) (from to : ℕ) (status : Status) (old new : Option (List ℕ)) : Type 0 where
  pub text : List ℕ
  pub finds : FindsTension s m from to status text
  pub written : Grew old new text
  pub says : TensionSays (grounded m) from to finds.found
  pub greatest : (status ≡ Done) ↔ ((t : ℤ) × IsGreatestTension (grounded m) from to t)
  pub unbounded : (status ≡ Unbounded) ↔ TensionHasNoTop (grounded m) from to
  pub refused : (status ≡ Circuit) ↔ TensionIsRefused (grounded m)
