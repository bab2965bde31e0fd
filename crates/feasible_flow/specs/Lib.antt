-- How domains paint a net:
pub mod Painting
-- What flows lack to their domains, and how they stand on the way there:
pub mod Violations
pub mod UnderWay
-- Levels, from the coarsest down to the curves themselves:
pub mod ByLevels
