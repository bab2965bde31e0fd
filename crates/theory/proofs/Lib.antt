-- The first of many:
pub mod First
-- Arithmetic of whole numbers:
pub mod Rings
pub mod Sums
pub mod SumsBelow
pub mod Counting
-- Curve lists:
pub mod Ends
pub mod Shape
pub mod Places
pub mod Bounds
pub mod PartialSums
pub mod Clip
-- Laws of curves:
pub mod Scaling
pub mod Pairs
pub mod Fenchel
pub mod Equality
pub mod Whole
pub mod ReadingLaws
-- Derived curves:
pub mod ReversedList
pub mod ReversedPairs
pub mod ReversedCost
pub mod ZeroCost
pub mod ConjugateList
pub mod Parts
pub mod ConjugateCost
pub mod ConjugateReadings
pub mod ViewBounds
pub mod Rounding
pub mod Level
-- Networks and certificates:
pub mod SumLaw
pub mod Duality
pub mod Refusals
pub mod Unbounded
pub mod Walks
pub mod Marks
pub mod Certificates
pub mod GroundedLaw
