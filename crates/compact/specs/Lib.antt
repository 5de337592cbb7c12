pub mod Constraints
pub mod Monotone
pub mod Neighbours
