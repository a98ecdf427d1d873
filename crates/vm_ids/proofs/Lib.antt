pub mod Ids
pub mod Callers
