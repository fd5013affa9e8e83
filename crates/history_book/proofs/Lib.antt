mod BookLemmas
pub mod CommitLaws
mod CopyLaws
pub mod FoundLaws
pub mod FreshLaws
pub mod JobLaws
pub mod LineLaws
pub mod OpenLaws
pub mod ReignLaws
pub mod ToldLaws
mod Weaving
mod WholeLaws
