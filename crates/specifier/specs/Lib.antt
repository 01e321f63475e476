pub mod Accepted
pub mod Branches
pub mod Requests
pub mod Rules
pub mod Samples
pub mod Sought
