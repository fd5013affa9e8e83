pub mod Shown
pub mod Files
pub mod Faults
pub mod Reading
pub mod Placing
pub mod Sound
pub mod Stands
pub mod Given
