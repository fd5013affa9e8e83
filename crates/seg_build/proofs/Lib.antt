pub mod LiveMarks
mod EntryRows
pub mod NameOrder
mod Records
mod ReadBack
mod WordCounts
pub mod Given
