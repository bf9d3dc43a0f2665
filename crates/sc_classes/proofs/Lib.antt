mod Hung
pub mod Along
pub mod Joins
mod Leasts
pub mod Near
pub mod Searching
