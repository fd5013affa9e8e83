pub mod CellLemmas
pub mod DirectoryLaw
