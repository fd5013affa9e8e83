pub mod Board
pub mod Fates
pub mod Merging
pub mod TaskLog
