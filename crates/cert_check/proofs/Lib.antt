-- What a net says of its network:
pub mod Nets
-- Scans of nodes and arcs, and their sums:
pub mod Scans
-- Verdicts:
pub mod Verdicts
