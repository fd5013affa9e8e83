mod Writes
mod JudgeAnswers
pub mod Numbers
pub mod AnswerLaws
mod FrameAnswers
mod CheckAnswers
pub mod Complete
mod Shown
