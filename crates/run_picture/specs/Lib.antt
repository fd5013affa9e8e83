pub mod Views
pub mod Picture
