pub mod Intervals
pub mod ItemTexts
pub mod Readings
pub mod Sets
pub mod Spans
