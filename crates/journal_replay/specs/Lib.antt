pub mod Causes
pub mod Legal
pub mod Plans
pub mod Replays
