pub mod Back
pub mod Texts
pub mod Written
