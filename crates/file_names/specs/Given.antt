-- The words of the crates below that this crate gives on to those above.
pub use Rattle.nrt_base.specs.Causes.{Rose}
pub use Rattle.nrt_base.specs.declared.numbers.Gen.{Gen}
pub use Rattle.nrt_base.specs.declared.numbers.Version.{Version}
