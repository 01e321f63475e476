pub mod Copies
pub mod Firsts
pub mod Readings
pub mod Scans
