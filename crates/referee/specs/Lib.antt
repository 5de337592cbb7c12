pub mod Drawings
pub mod Claims
pub mod Taken
pub mod Faults
