mod Steps
mod Remainder
mod Slicing
mod Triples
mod KnownSums
pub mod ByteLaws
mod Fields
pub mod FrameLaws
mod FaultLaws
pub mod CheckLaws
pub mod Altered
