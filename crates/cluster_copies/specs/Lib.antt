pub mod Going
pub mod Sends
