pub mod Entries
pub mod Flags
pub mod Kinds
pub mod Limits
pub mod Loading
pub mod Meant
pub mod Rows
pub mod Tables
