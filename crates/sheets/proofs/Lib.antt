pub mod Entering
pub mod Lawful
pub mod LineSteps
pub mod Places
pub mod RowSteps
pub mod Serving
pub mod Wholes
