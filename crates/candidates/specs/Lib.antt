pub mod Answers
pub mod Asked
pub mod Candidates
pub mod Left
pub mod Samples
