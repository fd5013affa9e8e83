pub mod Lines
pub mod Reading
pub mod Runs
pub mod States
pub mod Streams
pub mod Wire
