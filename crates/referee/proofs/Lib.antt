pub mod Leaving
pub mod OnlyShape
pub mod NoDrawing
pub mod Listed
pub mod EdgePaths
pub mod FirstFaults
pub mod FirstOfShapes
