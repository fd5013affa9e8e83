-- The lemmas of the crates below that this crate gives on to those above.
pub use Rattle.seg_reader.proofs.Given.{live_rows-cons}
pub use Rattle.seg_reader.proofs.SortedLists.{live_ascend}
