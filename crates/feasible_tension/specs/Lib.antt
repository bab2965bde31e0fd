-- Back along labels:
pub mod Back
pub mod Lap
-- Potentials that are lowered until they fit:
pub mod Bounds
pub mod Kept
pub mod Passed
pub mod Relaxing
