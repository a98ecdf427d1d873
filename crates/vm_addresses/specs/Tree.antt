pub mod Allocation
pub mod CountedTrees
pub mod BalancedTree
