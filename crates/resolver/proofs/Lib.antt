pub mod EveryPile
pub mod Handed
pub mod Runs
pub mod Served
