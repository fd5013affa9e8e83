mod Bags
mod Documents
pub mod Segments
pub mod PublishLaws
pub mod CuttingOver
pub mod Merges
mod CutRows
pub mod TermRows
mod RowsLeft
mod FlushLemmas
mod Taking
mod Looping
pub mod NextLemmas
pub mod AfterPublish
pub mod NextNames
mod Openings
mod Placing
pub mod NextSpelling
pub mod MergeStarts
pub mod AfterCutOver
pub mod CutNumbers
