pub mod Grammar
pub mod Refused
pub mod Exact
pub mod Reading
