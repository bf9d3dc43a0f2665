pub mod BankMeanings
pub mod Grown
pub mod Puts
mod Copies
mod Distinct
mod Entries
pub mod Extension
pub mod Firsts
pub mod Ranges
pub mod Small
pub mod Words
