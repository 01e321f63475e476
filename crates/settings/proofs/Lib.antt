pub mod Kept
pub mod Labels
pub mod Limited
pub mod Offers
pub mod Tests
