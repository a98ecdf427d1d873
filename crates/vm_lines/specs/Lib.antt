pub mod Replies
pub mod Machines
pub mod Runs
pub mod Sessions
pub mod Moving
pub mod Laws
