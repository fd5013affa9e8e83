pub mod Cut
pub mod Segments
pub mod Next
pub mod CutOver
pub mod Marks
pub mod Killing
pub mod Starting
pub mod Given
