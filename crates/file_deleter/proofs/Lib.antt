pub mod NameLemmas
mod Removing
pub mod Falling
pub mod Keeping
mod Sounding
mod Releasing
pub mod Writing
