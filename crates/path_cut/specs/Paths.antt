-- Paths, and the ends that steps lead to.
use Rattle.std.specs.Prelude.{◌≡◌, ◌≢◌, ℕ, ◌+◌, ◌<◌, Bool, if◌then◌else◌, List, length}
use Rattle.theory.specs.declared.ext.Ext.{Ext}
use Rattle.theory.specs.declared.network.Step.{Step}
use Rattle.theory.specs.Ends.{negated}
use Rattle.theory.specs.CurveList.{first, last}
use Rattle.theory.specs.Network.{Network}
use Rattle.theory.specs.Circuit.{step, begin_of, end_of, WalkIsThere}

-- a walk from one node to another that meets no node and no arc twice
pub record IsPath (net : Network) (walk : List Step) (from to : ℕ) : Type 0 where
  pub not_empty : 0 < length walk
  pub there : WalkIsThere net walk
  pub begins : begin_of net (step walk 0) ≡ from
  pub joined : (k : ℕ) → k + 1 < length walk → end_of net (step walk k) ≡ begin_of net (step walk (k + 1))
  pub ends : (k : ℕ) → k + 1 ≡ length walk → end_of net (step walk k) ≡ to
  pub begins_differ : (i k : ℕ) → i < k → k < length walk → begin_of net (step walk i) ≢ begin_of net (step walk k)
  pub ends_differ : (i k : ℕ) → i < k → k < length walk → end_of net (step walk i) ≢ end_of net (step walk k)
  pub arcs_differ : (i k : ℕ) → i < k → k < length walk → (step walk i).arc.0 ≢ (step walk k).arc.0

-- the upper end of a domain for the step forward, and the opposite of its lower end for the step backward
abbrev pub leading_end : List Ext → Bool → Ext
leading_end items forward = if forward then last items else negated (first items)
