pub mod LaterMoves
pub mod MoreEvents
