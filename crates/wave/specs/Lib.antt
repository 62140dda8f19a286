pub mod Plans
pub mod Answers
pub mod Rankings
pub mod Players
