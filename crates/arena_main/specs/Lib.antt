pub mod Evenings
pub mod Forms
pub mod Runs
pub mod Words
