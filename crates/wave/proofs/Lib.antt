pub mod Cuts
pub mod Ranges
pub mod Solved
pub mod Drawn
pub mod Players
pub mod Everyone
