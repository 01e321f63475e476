pub mod Handed
pub mod Piled
pub mod Runs
pub mod Served
