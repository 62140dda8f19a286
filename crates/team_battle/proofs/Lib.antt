pub mod Tallies
pub mod TeamOrder
pub mod TeamTable
