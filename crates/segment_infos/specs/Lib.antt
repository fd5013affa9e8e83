pub mod SegmentInfo
pub mod Infos
pub mod Files
pub mod Commits
pub mod Reading
pub mod Given
