pub mod Seeing
pub mod States
