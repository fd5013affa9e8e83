pub mod Disk
pub mod Faults
pub mod Given
pub mod Listed
