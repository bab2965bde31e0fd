-- How large numbers become:
pub mod Ranges
-- Along steps, at nodes:
pub mod Along
pub mod Excess
pub mod Ready
pub mod Marks
-- The search for a cheapest route:
pub mod Spread
pub mod Heap
pub mod Routing
-- The beginning: flows on their curves
pub mod Clamping
-- From level to level:
pub mod Leveling
-- Certificates of what was found:
pub mod Kind
pub mod Left
pub mod FeasibleParts
pub mod Whole
-- Curves by the arc:
pub mod BundleFacts
-- Potentials closer together:
pub mod Gaps
