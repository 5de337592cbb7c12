pub mod Relaxing
pub mod Constraining
pub mod Walking
pub mod Numbers
pub mod Placing
pub mod Stepping
pub mod OneWay
