pub mod Lookups
pub mod Truth
