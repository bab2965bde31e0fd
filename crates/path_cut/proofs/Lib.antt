-- One end, and one arc:
pub mod Ends
pub mod Walks
-- Laws of flows:
pub mod FlowBound
pub mod OpenPath
-- Laws of tensions:
pub mod TensionBound
pub mod Lifting
-- How they are found:
pub mod Augmenting
pub mod Cuts
pub mod Slacks
pub mod Climbing
pub mod Lifts
-- Whole nets:
pub mod Same
pub mod Returns
pub mod Says
