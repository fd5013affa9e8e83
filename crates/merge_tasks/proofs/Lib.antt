pub mod BoardRows
pub mod Counts
mod FateLaws
mod MergeFrames
mod MergeRowLemmas
pub mod TaskFrames
