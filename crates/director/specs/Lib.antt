pub mod Due
pub mod Steps
pub mod Answers
pub mod Turns
pub mod Gains
