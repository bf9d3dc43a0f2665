pub mod Options
pub mod Numbered
pub mod Integers
pub mod Spans
pub mod Totals
