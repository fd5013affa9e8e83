pub mod Windows
pub mod Places
pub mod Rows
pub mod Phrases
pub mod Cursor
pub mod Best
pub mod Matching
