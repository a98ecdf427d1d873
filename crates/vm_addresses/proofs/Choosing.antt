pub mod ExactStart
pub mod ExactWindows
pub mod Places
pub mod Searched
pub mod WindowPlaces
