pub mod Held
pub mod Lengths
pub mod Straight
pub mod Remaining
pub mod WideOnly
pub mod DrawnAnswers
