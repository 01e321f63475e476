pub mod Fronts
pub mod Routes
