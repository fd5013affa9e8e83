-- The lemmas of the crates below that this crate gives on to those above.
pub use Rattle.segment_infos.proofs.SetLaws.{one_list_of}
