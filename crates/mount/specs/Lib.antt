pub mod Mounts
pub mod Placed
