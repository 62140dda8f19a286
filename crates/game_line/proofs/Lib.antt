pub mod Lists
pub mod Lines
pub mod Quiets
pub mod Repetitions
pub mod Undone
pub mod KeptPositions
