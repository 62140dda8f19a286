pub mod Loads
pub mod Works
pub mod Shifts
pub mod Evenings
