-- Worked examples: small models, with what the definitions give for them (the statements stand in src/examples.rt).
use Rattle.std.specs.Prelude.{ℕ, ℤ, pos, negsuc, true, false, List, [], ◌∷◌, codes}
use Rattle.theory.specs.declared.ext.Ext.{Ext}
use Rattle.theory.specs.declared.ext.Ext.TheVariants.{MinusInf, At, PlusInf}
use Rattle.theory.specs.declared.network.Step.{Step}
use Rattle.theory.specs.CurveList.{Listing}
use Rattle.theory.specs.Network.{Network}
use Rattle.theory.specs.Grounded.{NodeEntry, ArcEntry, Entries, grounded}

-- ---- curves

abbrev pub listed : List Ext → Listing
listed items = record { items = items; base = pos 0 }

abbrev pub single : ℤ → Listing
single z = listed (At z ∷ [])

-- `0 2 4 5 10`: slope 2 up to flow 4, then slope 5 up to flow 10
abbrev pub two_slopes : List Ext
two_slopes = At (pos 0) ∷ At (pos 2) ∷ At (pos 4) ∷ At (pos 5) ∷ At (pos 10) ∷ []

-- `-4 -1 +inf`
abbrev pub half_line : List Ext
half_line = At (negsuc 3) ∷ At (negsuc 0) ∷ PlusInf ∷ []

-- `-inf 3 +inf`
abbrev pub full_line : List Ext
full_line = MinusInf ∷ At (pos 3) ∷ PlusInf ∷ []

-- `2 3 6 base 10`
abbrev pub with_base : Listing
with_base = record { items = At (pos 2) ∷ At (pos 3) ∷ At (pos 6) ∷ []; base = pos 10 }

-- `-5 1 -3 2 7`
abbrev pub uneven : List Ext
uneven = At (negsuc 4) ∷ At (pos 1) ∷ At (negsuc 2) ∷ At (pos 2) ∷ At (pos 7) ∷ []

-- ---- models of two nodes s and t

abbrev pub node : List ℕ → Listing → NodeEntry
node name supply = record { name = name; supply = supply }

abbrev pub arc : List ℕ → ℕ → ℕ → Listing → ArcEntry
arc name tail head curve = record { name = name; from = tail; to = head; curve = curve }

-- supplies 5 and -5, one arc
abbrev pub one_arc : Listing → Entries
one_arc curve = record { nodes = node (codes "s") (single (pos 5)) ∷ node (codes "t") (single (negsuc 4)) ∷ []; arcs = arc (codes "a") 0 1 curve ∷ [] }

abbrev pub ordinary : Network
ordinary = grounded (one_arc (listed two_slopes))

-- the supply of s is free at the potential 2
abbrev pub one_certificate_only : Network
one_certificate_only = grounded (record {
  nodes = node (codes "s") (listed (MinusInf ∷ At (pos 2) ∷ PlusInf ∷ [])) ∷ node (codes "t") (single (negsuc 4)) ∷ [];
  arcs = arc (codes "a") 0 1 (listed two_slopes) ∷ [];
})

-- the arc carries 3 at most
abbrev pub too_narrow : Network
too_narrow = grounded (one_arc (listed (At (pos 0) ∷ At (pos 1) ∷ At (pos 3) ∷ [])))

-- supplies 3 and -3 over the same arc
abbrev pub just_wide_enough : Network
just_wide_enough = grounded (record {
  nodes = node (codes "s") (single (pos 3)) ∷ node (codes "t") (single (negsuc 2)) ∷ [];
  arcs = arc (codes "a") 0 1 (listed (At (pos 0) ∷ At (pos 1) ∷ At (pos 3) ∷ [])) ∷ [];
})

-- no supplies; an arc from s to t and one back, both without an upper end, at these slopes
abbrev pub there_and_back : ℤ → ℤ → Network
there_and_back there back = grounded (record {
  nodes = node (codes "s") (single (pos 0)) ∷ node (codes "t") (single (pos 0)) ∷ [];
  arcs = arc (codes "a") 0 1 (listed (At (pos 0) ∷ At there ∷ PlusInf ∷ [])) ∷ arc (codes "b") 1 0 (listed (At (pos 0) ∷ At back ∷ PlusInf ∷ [])) ∷ [];
})

-- a step over an arc, by its grounded number
abbrev pub forward_over : ℕ → Step
forward_over j = record { arc = record { 0 = j }; forward = true }

abbrev pub backward_over : ℕ → Step
backward_over j = record { arc = record { 0 = j }; forward = false }

-- one node whose supply is free at the potential 3
abbrev pub full_horizontal_line : Network
full_horizontal_line = grounded (record { nodes = node (codes "s") (listed full_line) ∷ []; arcs = [] })

-- three nodes p, q, r and a ring of arcs a, b, c
abbrev pub ring : Network
ring = grounded (record {
  nodes = node (codes "p") (single (pos 0)) ∷ node (codes "q") (single (pos 0)) ∷ node (codes "r") (single (pos 0)) ∷ [];
  arcs = arc (codes "a") 0 1 (listed two_slopes) ∷ arc (codes "b") 1 2 (listed two_slopes) ∷ arc (codes "c") 2 0 (listed two_slopes) ∷ [];
})

-- the circuit that an arc of the ring closes with the ground arcs: the arc, back to the ground, and out again
abbrev pub over_ground : ℕ → ℕ → ℕ → List Step
over_ground j into out = forward_over j ∷ backward_over into ∷ forward_over out ∷ []
