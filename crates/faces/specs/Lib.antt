pub mod Planes
pub mod Faces
pub mod Faults
pub mod Greatest
pub mod Numbering
