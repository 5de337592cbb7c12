pub mod Adding
pub mod TableParts
pub mod OneTable
pub mod RecordEntries
pub mod ColumnNames
