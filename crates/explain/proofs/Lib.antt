pub mod Bounds
pub mod DecidingSteps
pub mod EndSteps
pub mod FillingSteps
pub mod QuietSteps
pub mod Writing
pub mod TellingSteps
