mod Acted
mod Added
mod Drafted
pub mod Entered
mod Finished
mod Good
mod Listed
mod Onward
mod Planned
mod PlayedOut
mod Rounded
