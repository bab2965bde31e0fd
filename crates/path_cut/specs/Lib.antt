-- Paths, and what is greatest between two nodes:
pub mod Paths
pub mod GreatestFlow
pub mod GreatestTension
-- Its laws:
pub mod FlowLaws
pub mod TensionLaws
pub mod Returned
pub mod Found
pub mod Whole
pub mod Says
-- How it is found:
pub mod Paintings
pub mod Augmenting
pub mod Lifting
pub mod Slack
pub mod Climbing
