pub mod Lengths
pub mod Weights
pub mod Searching
