pub mod Joins
pub mod Laws
