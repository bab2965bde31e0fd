-- Readings that a view makes of its own:
pub mod ZeroCostReadings
pub mod FlowBetween
-- The conjugate list by places:
pub mod Turned
-- Levels: what a method by levels asks of them, their laws, and how the curve below is read:
pub mod Levels
pub mod LevelLaws
pub mod LevelReadings
pub mod LevelFacts
