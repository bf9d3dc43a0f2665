pub mod Sexpr
pub mod Words
pub mod Spelling
pub mod Text
pub mod Reading
pub mod Laws
pub mod Held
