pub mod Asked
pub mod Asking
pub mod DartConditions
pub mod Chosen
pub mod Cut
