pub mod Quarters
pub mod Frontiers
pub mod Holdings
pub mod Flagging
pub mod Pairs
