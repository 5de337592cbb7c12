pub mod Counts
pub mod Deals
pub mod Fans
pub mod Links
pub mod Pools
pub mod Settling
pub mod Views
