pub mod Known
pub mod Lines
pub mod Nodes
pub mod Versions
