pub mod Axes
pub mod Crossing
