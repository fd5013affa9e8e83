mod CommitPlaces
mod CrashedPlaces
pub mod EndedJobs
mod HeldRows
pub mod JobFiles
mod JobNumbers
pub mod Keys
pub mod OutCounts
mod PromotedNodes
pub mod RunningJobs
pub mod Slots
pub mod Stepping
pub mod Stopping
pub mod Taking
pub mod TicketNodes
