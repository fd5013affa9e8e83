pub mod Jobs
pub mod Taken
