pub mod BlockCounts
pub mod BlockOrder
pub mod GapLists
pub mod HeldChanges
pub mod HeldLists
pub mod HeldSets
pub mod PickedRanges
