mod Arrivals
mod Ascending
pub mod Placings
pub mod Naming
mod Lookups
pub mod Kept
pub mod Taking
pub mod Points
