pub mod AtPrimary
pub mod BegunShows
pub mod BegunStands
pub mod CopyCalls
mod CopyFacts
mod CopyLists
mod CopyPaths
pub mod CopyRows
mod CutFiles
mod CutPaths
mod CutStands
mod DueFiles
mod EndedCopies
pub mod FilesMore
mod FirstSizes
mod GivenMerges
pub mod InsideSteps
mod KeptMerges
mod LostCopies
mod MaySending
mod MovedCopies
mod ReadyFiles
mod ReadyPaths
mod ReplicaCount
mod SendLoop
mod SendSteps
mod SentTold
mod SizesCut
mod SizesEnded
pub mod StandSteps
pub mod StartPaths
mod TaskBehind
pub mod TaskPaths
mod Turning
mod WrittenMerges
mod WrittenStand
