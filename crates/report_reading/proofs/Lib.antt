mod CutLemmas
mod NameLaws
pub mod ReadingLaws
pub mod LineLaws
