pub mod Meta
pub mod States
