-- The network with an arc back from a goal to a start, which may carry any flow.
use Rattle.std.specs.Prelude.{ℕ, pos, [], ◌∷◌, ◌++◌}
use Rattle.theory.specs.declared.ext.Ext.TheVariants.{MinusInf, At, PlusInf}
use Rattle.theory.specs.CurveList.{Listing}
use Rattle.theory.specs.Network.{Network}
use Rattle.theory.specs.Grounded.{joining}

-- no end of the domain, and no cost
abbrev pub line : Listing
line = record { items = MinusInf ∷ At (pos 0) ∷ PlusInf ∷ []; base = pos 0 }

abbrev pub returned : Network → ℕ → ℕ → Network
returned net from to = record {
  nodes = net.nodes;
  arcs = net.arcs ++ joining to from ∷ [];
  curves = net.curves ++ line ∷ [];
}
