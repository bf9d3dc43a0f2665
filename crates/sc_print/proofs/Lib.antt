mod Lines
mod Digits
pub mod Bytes
mod Values
pub mod Tokens
pub mod SymbolsBack
pub mod NumbersBack
mod ValuesBack
mod ErrorsBack
