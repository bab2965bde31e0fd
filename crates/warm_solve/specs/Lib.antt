-- What a certificate is of:
pub mod Kinds
-- When a certificate stays, and what it becomes:
pub mod Renumbered
-- The kept solution:
pub mod Kept
-- In the code: one part of a sum in another's place
pub mod Part
-- The changes text:
pub mod ChangesText
pub mod ChangesTextLaws
pub mod ChangesReading
-- What the code keeps:
pub mod HeldChanges
