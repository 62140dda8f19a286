pub mod Fates
pub mod Replayed
pub mod Replays
