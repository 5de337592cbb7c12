pub mod Ranges
pub mod Words
pub mod Facts
pub mod Conditions
pub mod Combinations
pub mod Tables
