pub mod Clashes
pub mod Growing
pub mod Labels
pub mod Tried
