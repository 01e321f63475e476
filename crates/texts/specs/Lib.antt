pub mod Held
pub mod Parts
pub mod Scans
pub mod Taken
pub mod Texts
pub mod Walks
pub mod Hashes
