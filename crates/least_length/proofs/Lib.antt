pub mod Weighing
pub mod Sweeping
