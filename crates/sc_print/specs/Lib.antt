pub mod Spelling
pub mod Readback
