pub mod Bounds
pub mod Lines
pub mod Marks
pub mod Pieces
pub mod Placed
pub mod Receiving
pub mod Sinks
