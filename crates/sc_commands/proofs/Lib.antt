pub mod Sorts
pub mod Heads
pub mod Words
pub mod Bars
pub mod Spelling
pub mod Grammar
