pub mod ReadNodes
pub mod ReadValues
pub mod Writing
pub mod ReadSpaces
pub mod RepairedTrees
pub mod NodeStates
pub mod Accepted
