-- Paintings by domains and spans: which steps lead to no end of a domain, and which to an end of a span that the tension has come to.
use Rattle.std.specs.Prelude.{ℕ, ◌==◌, ℤ, not, if◌then◌else◌, List}
use Rattle.theory.specs.declared.ext.Ext.{Ext}
use Rattle.theory.specs.declared.ext.Ext.TheVariants.{At}
use Rattle.theory.specs.declared.colour.Colour.{Colour}
use Rattle.theory.specs.declared.colour.Colour.TheVariants.{Red}
use Rattle.theory.specs.Ends.{is_finite, is_below}
use Rattle.theory.specs.CurveList.{first, last}
use Rattle.theory.specs.Span.{span_low, span_high}
use Rattle.theory.specs.Network.{«at», list_at}
use Rattle.theory.specs.Conserved.{tension}
use Rattle.net_incidence.specs.Graph.{Graph, bare}
use Rattle.feasible_flow.specs.Painting.{shade}

-- arc m may not be passed at all
abbrev pub but : ℕ → (ℕ → Colour) → ℕ → Colour
but m colours j = if j == m then Red else colours j

abbrev pub endless_colour : List Ext → Colour
endless_colour items = shade (not (is_finite (last items))) (not (is_finite (first items)))

abbrev pub endless : List (List Ext) → ℕ → Colour
endless lists j = endless_colour (list_at lists j)

-- forward where the tension isn't below the upper end of the span, backward where it isn't above the lower one
abbrev pub tight_colour : List Ext → ℤ → Colour
tight_colour items v = shade (not (is_below (At v) (span_high items))) (not (is_below (span_low items) (At v)))

abbrev pub tight : Graph → List (List Ext) → List ℤ → ℕ → Colour
tight g lists u j = tight_colour (list_at lists j) (tension (bare g) («at» u) j)
