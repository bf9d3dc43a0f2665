pub mod Walk
pub mod Classes
pub mod Stock
pub mod Numbered
pub mod Laws
pub mod Tables
pub mod Forests
pub mod Groups
