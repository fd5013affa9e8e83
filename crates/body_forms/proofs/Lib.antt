pub mod Formats
mod VIntLemmas
pub mod Numerals
pub mod NumberLaws
pub mod Loops
pub mod ItemTables
pub mod TableTests
pub mod FileLaws
pub mod WritingTables
