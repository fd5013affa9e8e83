pub mod Clearings
pub mod Metas
pub mod Openings
pub mod Opens
mod Placed
mod Recoveries
mod Releasing
pub mod Segments
pub mod Settled
