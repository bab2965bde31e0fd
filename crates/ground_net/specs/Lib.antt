-- What the grounded network of a model keeps, and how far it is built:
pub mod Ground
pub mod Built
pub mod Costs
