-- Lifting: the potentials outside a set of nodes raised by an amount, all by the value at node 0.
use Rattle.std.specs.Prelude.{ℕ, ℤ, pos, ◌+ℤ◌, ◌-ℤ◌, Bool, true, false, List}
use Rattle.theory.specs.declared.ext.Ext.{Ext}
use Rattle.theory.specs.Ends.{IsAtLeast, IsAtMost}
use Rattle.theory.specs.Span.{span_low, span_high}
use Rattle.theory.specs.Network.{«at»}
use Rattle.theory.specs.Cut.{holds}

-- what a node is raised by, by whether the set holds it
abbrev pub lift : ℕ → Bool → ℤ
lift t true = pos 0
lift t false = pos t

abbrev pub lifted : ℕ → List Bool → List ℤ → ℕ → ℤ
lifted t side u i = («at» u i +ℤ lift t (holds side i)) -ℤ lift t (holds side 0)

-- the span goes on from a tension as far as the lifting moves it, by whether the set holds the arc's tail and its head
abbrev pub HasSlack : List Ext → ℤ → Bool → Bool → ℕ → Type 0
HasSlack items v true true t = Unit {0}
HasSlack items v true false t = IsAtMost 1 (span_high items) (v +ℤ pos t)
HasSlack items v false true t = IsAtLeast 1 (span_low items) (v -ℤ pos t)
HasSlack items v false false t = Unit {0}
