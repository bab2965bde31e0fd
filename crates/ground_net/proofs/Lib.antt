pub mod Building
pub mod Costs
pub mod Items
pub mod Replacing
