pub mod KeptBooks
pub mod Ready
pub mod Steps
pub mod TextParts
pub mod Lacks
