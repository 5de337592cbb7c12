pub mod Refusals
pub mod Faults
pub mod Requests
pub mod Helps
