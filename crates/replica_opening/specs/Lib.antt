pub mod Known
pub mod Opened
pub mod Opening
pub mod Places
pub mod Readers
pub mod Reading
