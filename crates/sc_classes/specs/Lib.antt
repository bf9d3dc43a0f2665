pub mod Classes
pub mod Forests
pub mod Searches
pub mod Explanations
