pub mod Pasting
pub mod Views
pub mod LentBlocks
