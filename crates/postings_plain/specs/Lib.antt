pub mod Postings
pub mod Body
pub mod Rows
pub mod Reading
pub mod Blocks
pub mod Inverting
pub mod Gathering
pub mod Joining
