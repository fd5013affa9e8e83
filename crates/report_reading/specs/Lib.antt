pub mod Cuts
pub mod Widths
pub mod Readings
