mod Accepts
pub mod Asked
mod Lifting
mod Opens
mod Promotions
mod Replays
pub mod Sections
mod Stands
pub mod StateParts
