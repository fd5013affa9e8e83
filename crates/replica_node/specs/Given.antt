-- The words of the crates below that this crate gives on to those above.
pub use Rattle.replica_opening.specs.Known.{HasMeta, IsLasting}
pub use Rattle.replica_opening.specs.Opened.{IsSettledOn}
pub use Rattle.replica_opening.specs.Opening.{FindsPoint, opening_infos}
