pub mod Entries
pub mod EntryLaws
pub mod Leaves
pub mod Puts
pub mod Runs
pub mod Iters
