pub mod Columns
pub mod Sheets
