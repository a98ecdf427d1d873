pub mod SavedNodes
pub mod Reading
