pub mod Lines
pub mod Form
pub mod Refusals
pub mod Replays
pub mod Serves
pub mod LogLaws
