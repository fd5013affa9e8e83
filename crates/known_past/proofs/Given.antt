-- The lemmas of the crates below that this crate gives on to those above.
pub use Rattle.history_book.proofs.ReignLaws.{start_short}
