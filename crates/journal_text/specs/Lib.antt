pub mod Lines
pub mod Text
pub mod Forms
pub mod EntryForms
pub mod Reading
pub mod Beginnings
pub mod Writing
