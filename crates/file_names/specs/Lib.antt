pub mod Base36
pub mod Base36Layout
pub mod FileNames
pub mod Names
pub mod WordOrder
pub mod Given
