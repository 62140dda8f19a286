pub mod Line
pub mod Repetition
pub mod Quiet
pub mod Kept
pub mod Laws
pub mod Below
