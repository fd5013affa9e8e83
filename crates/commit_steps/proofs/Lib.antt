mod Answers
pub mod Safe
mod Advancing
mod Books
mod StepCounts
mod Beginning
mod Recovering
pub mod Recovered
pub mod Beside
pub mod TestLaws
pub mod Given
