-- Curves at a flow:
pub mod NextFlow
pub mod Prices
-- Sets of nodes:
pub mod Marking
-- How it spreads:
pub mod Spreading
pub mod Heaps
pub mod Requeued
pub mod Relaxing
pub mod Waiting
pub mod Bundles
pub mod Settling
-- How flow moves:
pub mod Lowering
pub mod Pushing
pub mod Rooms
pub mod Cutting
pub mod Serving
-- The beginning:
pub mod Clamps
pub mod Leveling
-- Certificates of what was found:
pub mod Parts
pub mod Pairs
pub mod RightKind
pub mod Fuelled
-- Potentials closer together:
pub mod Heights
-- In tests:
pub mod Beginning
