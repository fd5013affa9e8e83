pub mod DocumentLemmas
pub mod InOrderLemmas
mod WordLemmas
pub mod MatchingLemmas
pub mod RankLemmas
