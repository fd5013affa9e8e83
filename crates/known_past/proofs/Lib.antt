pub mod LineLaws
mod KnownLaws
mod NodeLaws
mod PlaceLaws
mod VersionLaws
mod FlightLaws
pub mod Given
mod CopyLaws
mod SinceLaws
mod ReopenLaws
