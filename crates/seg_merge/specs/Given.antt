-- The words of the crates below that this crate gives on to those above.
pub use Rattle.seg_build.specs.Built.{File, IsBuilt, IsNewSegment, files_of, first_live_gen, live_file_of, record_of}
pub use Rattle.seg_build.specs.Given.{AreLiveRowsOf, AreSegmentsOf, IsInKeyOrder, IsLiveFileIn, IsSegmentIn, IsSegmentOf, IsSound, Shown, StandsWith, live_documents, live_documents_of, record_id, shown_with, term_row}
pub use Rattle.seg_build.specs.Rows.{IsPrepared, docs_of, live_of}
pub use Rattle.seg_build.specs.declared.files.SegFiles.{SegFiles}
