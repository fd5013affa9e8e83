mod AnswerLaws
mod CauseLemmas
mod CommandLemmas
mod DropLemmas
pub mod FormLemmas
mod HeaderLemmas
mod LaneLineLemmas
mod LineLemmas
pub mod NumberLaws
pub mod NumberLemmas
mod OneLine
mod PhaseLemmas
pub mod RefusalLaws
mod RightForms
pub mod RightLines
mod ScriptLaws
mod ShapeLemmas
pub mod WordLaws
mod WordLemmas
