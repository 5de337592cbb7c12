pub mod SucceedsOrFails
pub mod Waits
pub mod Prefixes
pub mod Joining
pub mod Refusals
