pub mod Doing
pub mod Tasks
pub mod Given
