pub mod Same
pub mod Pairs
pub mod Boolean
pub mod Members
pub mod Steps
pub mod Example
pub mod Needs
