-- The words of the crates below that this crate gives on to those above.
pub use Rattle.codec_frame.specs.Bytes.{AreBytes}
pub use Rattle.codec_frame.specs.Checking.{IsChecked, IsFirstFault}
pub use Rattle.codec_frame.specs.Frame.{IsFramed, IsFramedAs, Wanted, index_header, with_footer}
pub use Rattle.codec_frame.specs.declared.frame.FileFault.TheVariants.{Body, Frame}
pub use Rattle.codec_frame.specs.declared.frame.FrameFault.{FrameFault}
pub use Rattle.codec_frame.specs.declared.frame.Framed.{Framed}
