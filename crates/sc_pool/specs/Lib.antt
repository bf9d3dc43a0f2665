pub mod Pools
pub mod Index
pub mod Laws
