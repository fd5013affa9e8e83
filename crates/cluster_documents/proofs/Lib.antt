mod Closing
mod CutRows
mod Cuts
mod DirNames
mod Filling
pub mod GivenUp
mod Holding
mod KeptPoint
pub mod Leasing
mod Listing
mod MetStands
mod MetWords
mod Opened
mod Opening
mod PointNames
mod Primaries
mod PublishEnding
mod PublishFiles
mod PublishPaths
mod ReadRows
mod ShownRows
mod TicketFiles
mod TicketPaths
mod Without
mod Writing
mod Written
