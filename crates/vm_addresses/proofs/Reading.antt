pub mod NestedTrees
pub mod ReadAllocators
pub mod WrittenAllocators
