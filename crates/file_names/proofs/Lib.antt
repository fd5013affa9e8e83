pub mod Base36Lemmas
pub mod NameLaws
mod NameLemmas
mod ReadingLemmas
mod SpellingLemmas
pub mod NameReading
pub mod Given
mod WordLemmas
