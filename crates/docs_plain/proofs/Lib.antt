mod RowLaws
mod BodyLaws
pub mod FileLaws
mod WritingLaws
