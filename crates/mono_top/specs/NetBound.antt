-- The most readings of curves that a solve takes of a network.
use Rattle.std.specs.Prelude.{ℕ, length}
use Rattle.theory.specs.Network.{Network}
use Rattle.theory.specs.Limits.{level_most}
use Rattle.theory.specs.ReadingBound.{reading_bound}

abbrev pub net_bound : Network → ℕ
net_bound net = reading_bound net.nodes (length net.arcs) level_most
