pub mod Asking
pub mod RangeTexts
