pub mod Headline
pub mod Load
pub mod NodeTexts
pub mod Rows
pub mod TopCalls
