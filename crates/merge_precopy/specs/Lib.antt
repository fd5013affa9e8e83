pub mod Pending
pub mod Tables
