pub mod VertexDegrees
pub mod Flowing
pub mod GrowingLists
pub mod WrittenLists
pub mod Faultless
pub mod OuterSet
pub mod GivenParts
pub mod Taken
