pub mod Bound
pub mod Cells
pub mod CellFaces
pub mod Parts
pub mod Orders
pub mod Least
