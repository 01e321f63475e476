pub mod Buffers
pub mod ByteLoops
pub mod CleanPaths
pub mod Names
pub mod PartLoops
pub mod SamePaths
pub mod Scans
pub mod Weights
