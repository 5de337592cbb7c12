pub mod Sums
pub mod Slices
