pub mod Chosen
pub mod Exact
pub mod Filling
pub mod Settling
