pub mod Entering
pub mod Searches
