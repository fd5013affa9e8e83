pub mod AskedPoints
pub mod Candidates
pub mod Kept
pub mod RightAnswers
pub mod Walks
