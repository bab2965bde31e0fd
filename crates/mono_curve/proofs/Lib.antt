-- Readings by places:
pub mod Stairs
pub mod ReadOff
pub mod PieceSlopes
-- Costs by pieces, and the looks of a search:
pub mod PieceCosts
pub mod Spending
-- How far from 0 readings are:
pub mod ReadingBounds
