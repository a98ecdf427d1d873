pub mod Gaps
pub mod OneList
pub mod BlockStates
pub mod Tilings
