pub mod Events
pub mod Standing
pub mod Endings
pub mod Refusals
pub mod Games
pub mod Held
pub mod Meanings
pub mod Laws
