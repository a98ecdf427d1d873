pub mod HeldKeys
pub mod AllocatorChecks
pub mod FreeChecks
pub mod Moving
pub mod Peeking
