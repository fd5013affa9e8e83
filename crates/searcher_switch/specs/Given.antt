-- The words of the crates below that this crate gives on to those above.
pub use Rattle.seg_reader.specs.Shown.{Shown}
