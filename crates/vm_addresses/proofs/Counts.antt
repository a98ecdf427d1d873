pub mod Allocating
pub mod Balanced
pub mod GapSearches
pub mod LeftClear
