mod Appending
pub mod Calm
mod FileLaws
mod LogFound
mod LogNames
mod RecordLaws
