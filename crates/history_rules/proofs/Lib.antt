mod AnswerLemmas
pub mod AnyLemmas
pub mod CommitLemmas
mod LawLemmas
pub mod NodeLemmas
pub mod FaultLaws
pub mod PassedLaws
pub mod PastLemmas
pub mod PlainLaws
pub mod PointLemmas
