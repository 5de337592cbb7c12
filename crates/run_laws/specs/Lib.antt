pub mod Laid
pub mod Outside
pub mod Supplies
pub mod Reports
pub mod Cells
pub mod Picks
pub mod Points
pub mod Frames
