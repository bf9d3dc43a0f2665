pub mod Sorts
pub mod Sorted
pub mod Posed
pub mod Walk
