pub mod Concatenated
pub mod Waits
pub mod Writing
pub mod FileOrder
