pub mod MergeChanges
pub mod MergePlaces
