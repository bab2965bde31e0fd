-- What a curve is, and the faults of a list:
pub mod CurveValue
pub mod CurveFacts
pub mod Faults
-- Readings, their count and how they are found:
pub mod Counted
pub mod Halving
-- Costs at points:
pub mod PointCosts
