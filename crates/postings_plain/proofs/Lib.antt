mod HitLaws
mod BlockLaws
mod CountedHits
mod EntryLaws
mod Passing
mod BlockPassing
mod PlaceLaws
mod Finding
mod BodyLaws
pub mod FileLaws
mod Judging
pub mod RowCounts
mod Gaining
pub mod GatheringLaws
mod ChainWriting
mod BlockWriting
mod FoundEntries
mod JoiningLaws
mod KeptHits
