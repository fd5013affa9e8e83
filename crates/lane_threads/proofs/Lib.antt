mod Crews
mod Endings
mod EventParts
pub mod FormLemmas
pub mod Heard
mod HeardLanes
pub mod IdleLemmas
pub mod LineLemmas
pub mod PartLemmas
pub mod Parts
pub mod PhaseLemmas
mod Places
pub mod ScriptLemmas
pub mod SeatLemmas
mod Seatings
pub mod StayLemmas
mod Turns
pub mod WalkLemmas
