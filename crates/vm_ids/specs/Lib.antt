pub mod Ids
pub mod IdRequests
pub mod IdOrder
pub mod FreedLists
pub mod Histories
pub mod Values
pub mod Checks
pub mod Facts
