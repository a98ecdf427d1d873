pub mod LeftGaps
pub mod LeftPlaces
pub mod Inside
pub mod Beginning
pub mod Finishing
pub mod Places
