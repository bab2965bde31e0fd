-- Nets with curves, and the bounds of steps:
pub mod Steps
pub mod Bounded
-- Rounds:
pub mod Writes
pub mod Lowering
pub mod Rounds
pub mod Examining
-- Back along the labels:
pub mod Pigeons
pub mod LabelsComeRound
-- The two answers:
pub mod PotentialBound
pub mod Shifting
pub mod CircuitIsNegative
pub mod CircuitIsSimple
