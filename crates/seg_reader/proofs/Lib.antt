mod Files
mod Contents
mod Numbers
mod Answering
mod Placed
pub mod SortedLists
pub mod StandingLaws
pub mod Given
