pub mod Heads
pub mod Lines
pub mod Listed
pub mod Rows
pub mod Scoring
