pub mod OneLane
pub mod ServingLemmas
pub mod LogLemmas
