-- How large the numbers of a certificate are:
pub mod Near
-- A certificate under a change of one curve:
pub mod Changed
-- One part of a sum in another's place:
pub mod Parts
-- A certificate with other numbers:
pub mod Staying
-- The changes text:
pub mod ChangesLines
pub mod ChangesLaws
