pub mod Splitting
pub mod Names
pub mod Numerals
pub mod FirstNumber
pub mod IdNumbers
pub mod Decimals
