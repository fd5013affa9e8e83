pub mod Bytes
pub mod Division
pub mod Register
pub mod Frame
pub mod Checking
