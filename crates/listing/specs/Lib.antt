pub mod Entries
pub mod Kinds
pub mod Meanings
pub mod Rows
pub mod Kept
pub mod RowsLemmas
