pub mod Records
pub mod Reading
pub mod Names
pub mod Logs
pub mod Opening
