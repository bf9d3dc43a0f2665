pub mod Exact
pub mod Rows
pub mod Laws
pub mod Sums
