mod AnswerLemmas
pub mod FaultLemmas
mod LevelLemmas
mod ReadingLemmas
mod Suffixes
mod SyntaxLemmas
mod TokenLemmas
pub mod TreeLemmas
