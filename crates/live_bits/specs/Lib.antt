pub mod LiveRows
pub mod Held
