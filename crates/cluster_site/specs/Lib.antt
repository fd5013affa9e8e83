pub mod Flights
pub mod Given
pub mod Replays
pub mod Sites
pub mod Turns
