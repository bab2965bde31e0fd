use Rattle.std.proofs.Common.{◌≡◌, ◌⊎◌, ℕ, ◌<◌}
use Rattle.theory.specs.Circuit.{step, begin_of}
use Rattle.net_incidence.specs.Graph.{bare}
use Rattle.net_incidence.proofs.net.Net.is_met_again.Given as goal

abbrev pub invariant-loop-i : goal.invariant-loop-i
invariant-loop-i l =
    (h : ℕ) → h < l.i
    → (begin_of (bare l.self) (step l.walk h) ≡ begin_of (bare l.self) (step l.walk l.k)) ⊎ ((step l.walk h).arc.0 ≡ (step l.walk l.k).arc.0) → ⊥
