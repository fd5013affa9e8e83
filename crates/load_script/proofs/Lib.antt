mod CalmPasts
mod FewNames
mod KeyedOps
mod LaneSplits
mod LastLines
pub mod LoadCounts
pub mod LoadForm
pub mod LoadLines
mod LoadTurns
pub mod Searching
