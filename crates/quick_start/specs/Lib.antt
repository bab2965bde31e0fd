-- What a draw leaves in the room:
pub mod Drawn
-- What it costs:
pub mod Spent
