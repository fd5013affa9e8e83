pub mod Tokens
pub mod Grammar
pub mod Syntax
pub mod States
pub mod Depths
pub mod Levels
pub mod Answers
