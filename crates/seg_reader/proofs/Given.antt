-- The lemmas of the crates below that this crate gives on to those above.
pub use Rattle.live_bits.proofs.Editing.{all_live}
pub use Rattle.live_bits.proofs.LiveCounts.{each_row_live, live_rows-cons}
