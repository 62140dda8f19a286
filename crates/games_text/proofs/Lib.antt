mod Lines
mod Noted
mod Sendings
mod Tags
mod Counted
