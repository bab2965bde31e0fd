-- The answer of a sum of ends: the sum where every end is finite, else the first arc whose end is infinite.
use Rattle.std.specs.Prelude.{◌≡◌, ℕ, ◌*◌, ◌^◌, Bool, List, length}
use Rattle.theory.specs.declared.ext.Ext.{Ext}
use Rattle.theory.specs.declared.network.Step.{Step}
use Rattle.theory.specs.First.{IsFirstFailing}
use Rattle.theory.specs.Ends.{IsFinite}
use Rattle.theory.specs.Limits.{IsWithin}
use Rattle.theory.specs.Network.{Network}
use Rattle.theory.specs.Cut.{cut_end, cut_sum, CutCounts}
use Rattle.theory.specs.Circuit.{step, span_end, span_sum, SpanCounts}
use Rattle.net_incidence.specs.declared.sums.Sum.{Sum}
use Rattle.net_incidence.specs.declared.sums.Sum.TheVariants.{Whole, Endless}

-- of n ends, number k is the first infinite one
abbrev pub IsFirstEndless : ℕ → (ℕ → Ext) → ℕ → Type 0
IsFirstEndless n end k = IsFirstFailing n (λ j. IsFinite (end j)) k

-- a sum of n ends, each of which fits 64 bits
abbrev pub IsSumWithin : ℕ → Sum → Type 0
IsSumWithin n (Whole z) = IsWithin (n * 2 ^ 63) z
IsSumWithin n (Endless arc) = Unit {0}

abbrev pub IsCutSum : Network → List Bool → Sum → Type 0
IsCutSum net side (Whole z) = CutCounts net side × (z ≡ cut_sum net side)
IsCutSum net side (Endless arc) = IsFirstEndless (length net.arcs) (cut_end net side) arc.0

abbrev pub IsSpanSum : Network → List Step → Sum → Type 0
IsSpanSum net walk (Whole z) = SpanCounts net walk × (z ≡ span_sum net walk)
IsSpanSum net walk (Endless arc) =
    (k : ℕ) × IsFirstEndless (length walk) (λ k. span_end net (step walk k)) k × (arc.0 ≡ (step walk k).arc.0)
