pub mod Packing
pub mod Counts
pub mod NoneElse
