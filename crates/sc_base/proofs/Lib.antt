pub mod Bools
pub mod Options
pub mod Places
pub mod Integers
pub mod Members
pub mod Copies
pub mod Products
pub mod Turns
