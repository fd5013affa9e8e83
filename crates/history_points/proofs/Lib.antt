mod AskedLaws
mod BestLaws
mod CandidateLaws
mod EntryLaws
mod HitLemmas
mod KeptLaws
mod RightLaws
mod WalkLemmas
