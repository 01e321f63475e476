pub mod Touching
pub mod Rewriting
pub mod Attempting
pub mod Asking
