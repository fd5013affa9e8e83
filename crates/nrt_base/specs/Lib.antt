pub mod Bytes
pub mod Causes
pub mod SegNumbers
pub mod formers
