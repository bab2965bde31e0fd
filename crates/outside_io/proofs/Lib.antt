mod Added
pub mod Entries
pub mod Grown
mod Held
pub mod Logs
