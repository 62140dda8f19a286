pub mod San
pub mod Reading
pub mod Games
pub mod Pgn
pub mod Runs
pub mod Tokens
pub mod PgnReading
