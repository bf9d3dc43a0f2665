pub mod Feeding
pub mod Going
pub mod Solving
