mod Reigns
mod WalkLemmas
mod DrawnLemmas
pub mod TicketLemmas
pub mod WrittenLemmas
