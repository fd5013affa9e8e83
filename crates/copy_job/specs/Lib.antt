pub mod Copying
pub mod Parts
pub mod Placing
pub mod Jobs
pub mod Taking
