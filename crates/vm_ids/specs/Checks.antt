pub mod IdChecks
pub mod IdQueries
pub mod FreedChecks
