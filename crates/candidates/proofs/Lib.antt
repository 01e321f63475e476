pub mod Placing
pub mod Mains
pub mod Asking
pub mod Writing
