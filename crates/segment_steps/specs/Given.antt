-- The words of the crates below that this crate gives on to those above.
pub use Rattle.seg_merge.specs.Given.{AreLiveRowsOf, AreSegmentsOf, File, IsLiveFileIn, IsSegmentIn, IsSound, Shown, StandsWith, record_of}
pub use Rattle.seg_merge.specs.Merging.{IsMergedOf, docs_by_input}
pub use Rattle.seg_merge.specs.declared.task.Merged.{Merged}
