pub mod Steps
pub mod GapSearch
