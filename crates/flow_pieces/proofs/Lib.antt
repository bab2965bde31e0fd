pub mod Carrying
pub mod Balance
pub mod Falling
pub mod Turning
pub mod Going
pub mod Closing
pub mod Splits
