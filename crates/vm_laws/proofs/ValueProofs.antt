pub mod Restored
pub mod NestedValues
pub mod ReadAgain
pub mod SavedTrees
