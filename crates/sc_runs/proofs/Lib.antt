pub mod Covered
pub mod Steps
pub mod LoopSteps
pub mod Sets
pub mod Elements
pub mod Meaning
pub mod Joins
pub mod Placed
