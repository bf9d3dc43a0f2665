pub mod Same
pub mod Inputs
pub mod Facts
pub mod Paths
