pub mod RangeMaps
pub mod Trees
pub mod Queries
pub mod Checks
pub mod TableLends
pub mod MapLends
pub mod Laws
