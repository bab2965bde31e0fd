-- What the pieces of a flow are, and what holds of them:
pub mod Pieces
pub mod PiecesLaws
-- When a flow has none:
pub mod Unbalanced
-- In the code: what is left of a flow, and a walk along it:
pub mod Course
pub mod Splitting
