-- The words of the crates below that this crate gives on to those above.
pub use Rattle.segment_infos.specs.Files.{AreFilesOf, files_of_segment}
pub use Rattle.segment_infos.specs.declared.infos.Infos.{Infos}
pub use Rattle.segment_infos.specs.declared.infos.SegRecord.{SegRecord}
