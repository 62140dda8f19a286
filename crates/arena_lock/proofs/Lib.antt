pub mod Added
pub mod Crossing
pub mod SentBoards
pub mod SentGames
pub mod SentPlayers
