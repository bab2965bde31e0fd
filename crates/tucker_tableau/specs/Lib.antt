-- The tableau of a network and its two laws:
pub mod Tableau
-- Its value, the first one, and one pivot further:
pub mod Table
pub mod Pivoted
pub mod First
-- Lists of entries while they are written:
pub mod Cells
-- The tree that lead leaves:
pub mod Lead
-- What every tableau keeps:
pub mod Kept
pub mod Places
pub mod Leading
