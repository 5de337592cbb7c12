mod SmallPlanes
pub mod OneSided
pub mod TurnCounts
pub mod WeakDuality
pub mod Spans
pub mod EdgeNumbers
pub mod Mirrors
pub mod Priced
pub mod Tallied
pub mod FewTurns
pub mod FlowStrings
pub mod GivenFlow
pub mod FromFlow
pub mod IntoFlow
pub mod SameAtDarts
pub mod Tries
pub mod Choosing
pub mod FarFaces
