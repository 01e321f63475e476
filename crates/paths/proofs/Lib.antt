pub mod Cuts
pub mod Growth
pub mod JoinLaws
pub mod Walking
