pub mod Holdings
pub mod Removals
pub mod Moves
pub mod Tally
