pub mod FlawLines
pub mod Statuses
pub mod TextRuns
