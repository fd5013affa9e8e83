mod FrameLaws
pub mod MessageLaws
mod NameTests
mod Reading
mod StateLaws
pub mod StreamLaws
