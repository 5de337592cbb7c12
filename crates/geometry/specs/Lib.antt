pub mod Directions
pub mod Frontier
pub mod Dictionary
pub mod Masks
pub mod Rectangles
