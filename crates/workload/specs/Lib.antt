pub mod Drafts
pub mod Numbers
pub mod Rounds
pub mod Scripts
pub mod Setups
pub mod Steps
pub mod Workloads
