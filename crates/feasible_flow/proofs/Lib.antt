-- Curves and violations, one arc at a time:
pub mod DomainEnds
pub mod OneArc
-- All arcs:
pub mod Lists
pub mod Sending
pub mod PathClosesCircuit
pub mod ViolationFalls
pub mod CutIsNegative
-- Level by level:
pub mod Doubling
pub mod LevelsDone
-- What it costs:
pub mod Spent
