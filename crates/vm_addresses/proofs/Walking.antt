pub mod AddressSearches
pub mod BlockParts
pub mod GapsInTrees
pub mod HeldInTrees
pub mod StateRanges
pub mod LongestParts
pub mod Windows
