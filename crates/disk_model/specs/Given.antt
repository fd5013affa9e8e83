-- The words of the crates below that this crate gives on to those above.
pub use Rattle.file_names.specs.Given.{Rose}
pub use Rattle.file_names.specs.Names.{live_name_of, part_name_of}
pub use Rattle.file_names.specs.declared.composed.SegPart.TheVariants.{Docs, Info, Post}
