pub mod Counted
pub mod ExactPlaces
pub mod Requests
pub mod Places
pub mod TakenRanges
