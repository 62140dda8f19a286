pub mod Colours
pub mod Cost
