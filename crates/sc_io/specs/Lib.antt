pub mod Counts
pub mod Moments
pub mod Reading
pub mod Writing
pub mod Memory
pub mod Edge
