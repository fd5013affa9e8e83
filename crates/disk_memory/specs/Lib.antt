pub mod Changed
pub mod Crash
pub mod Held
pub mod Memory
pub mod Table
