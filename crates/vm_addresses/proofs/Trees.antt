pub mod CountedTrees
pub mod Ends
pub mod Freeing
pub mod Spaces
pub mod HeldTrees
pub mod Joining
pub mod WrittenTrees
