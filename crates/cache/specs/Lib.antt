pub mod Held
pub mod Seen
