pub mod Known
pub mod Writings
pub mod Readings
pub mod Memories
