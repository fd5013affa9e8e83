pub mod InOrder
pub mod Documents
pub mod Words
pub mod Matching
pub mod Ranking
