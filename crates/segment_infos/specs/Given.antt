-- The words of the crates below that this crate gives on to those above.
pub use Rattle.body_forms.specs.File.{HasSmallBody, IsFile, IsFileAnswer, IsFileRead}
pub use Rattle.body_forms.specs.Numbers.{u64_bytes}
pub use Rattle.body_forms.specs.declared.read_fault.ReadFault.{ReadFault}
pub use Rattle.body_forms.specs.declared.read_fault.ReadFault.TheVariants.{File, Memory}
