-- The lemmas of the crates below that this crate gives on to those above.
pub use Rattle.body_forms.proofs.FileLaws.{err_of, one_value_of}
