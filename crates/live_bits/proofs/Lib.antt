mod BitLaws
mod Packing
pub mod Editing
mod NextRow
mod Bodies
pub mod FileLaws
pub mod LiveCounts
