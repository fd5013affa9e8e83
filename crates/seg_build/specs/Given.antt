-- The words of the crates below that this crate gives on to those above.
pub use Rattle.postings_plain.specs.Gathering.{FoundTerms, Gathers}
pub use Rattle.postings_plain.specs.Joining.{JoinsEntries, live_terms, numbers_from}
pub use Rattle.postings_plain.specs.Postings.{Entry, Hit, hits_of, row_of}
pub use Rattle.postings_plain.specs.declared.row.TermRow.{TermRow}
pub use Rattle.seg_reader.specs.Files.{AreLiveRowsOf, IsSegmentOf, record_id}
pub use Rattle.seg_reader.specs.Given.{live_rows}
pub use Rattle.seg_reader.specs.Shown.{IsInKeyOrder, Shown, live_documents, live_documents_of, shown_with}
pub use Rattle.seg_reader.specs.Sound.{IsSound, term_row}
pub use Rattle.seg_reader.specs.Stands.{AreSegmentsOf, IsLiveFileIn, IsSegmentIn, StandsWith}
