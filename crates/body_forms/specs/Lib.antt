pub mod VInts
pub mod Format
pub mod Numbers
pub mod ItemTable
pub mod File
pub mod TableParts
pub mod Given
