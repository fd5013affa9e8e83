mod Abandoned
mod Begins
mod Begun
pub mod Callers
mod Carrying
mod Choosing
mod CutMaking
mod CutPlaced
mod CutSteps
pub mod Drawing
pub mod Framing
mod Holding
mod Joining
pub mod Keeping
mod LoadCounts
mod Making
pub mod MergeLists
pub mod MergedFiles
pub mod NewFiles
mod NextNames
mod NextRecords
mod Opening
mod PublishStarts
mod Publishing
mod Readied
pub mod StateLemmas
mod StepFiles
mod Turns
mod Working
pub mod Writing
