-- The words of the crates below that this crate gives on to those above.
pub use Rattle.live_bits.specs.LiveRows.{IsLiveFile, live_rows}
pub use Rattle.postings_plain.specs.Postings.{format_number}
pub use Rattle.postings_plain.specs.declared.format.Format.{Format}
pub use Rattle.postings_plain.specs.declared.format.Format.TheVariants.{One, Two}
