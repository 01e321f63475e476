pub mod Cases
pub mod Lists
pub mod Remaining
pub mod Replayed
pub mod Scores
pub mod Summaries
pub mod Verdicts
