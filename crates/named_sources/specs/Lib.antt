pub mod Naming
pub mod Readers
pub mod Reasons
pub mod Refused
pub mod Sources
