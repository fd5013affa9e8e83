mod Appends
mod FormatLaws
mod RecordLaws
mod WritingLaws
mod InfoLaws
mod BodyLaws
pub mod FileLaws
mod NumberLaws
pub mod SortedLists
pub mod SetLaws
pub mod CommitLaws
pub mod TestLaws
pub mod Given
