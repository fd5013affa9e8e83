mod FinishLemmas
mod FitLemmas
mod FollowLaws
mod PlainServingLaws
pub mod ReplayLemmas
pub mod Unprinted
