-- The lemmas of the crates below that this crate gives on to those above.
pub use Rattle.nrt_base.proofs.Plain.{contains_cases, contains_later, false_never}
