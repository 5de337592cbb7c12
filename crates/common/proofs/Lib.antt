pub mod Sums
pub mod Pieces
pub mod PushedLists
