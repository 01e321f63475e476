pub mod Acceptances
pub mod Endings
pub mod Meanings
