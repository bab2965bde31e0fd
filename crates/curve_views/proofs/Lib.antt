-- Readings of the views:
pub mod ReversedReadings
pub mod FlatReadings
pub mod FlowOf
pub mod TurnedList
pub mod TurnedCosts
-- Levels:
pub mod Staircase
pub mod LevelWalks
pub mod LevelEnds
pub mod LevelFlows
pub mod LevelCuts
