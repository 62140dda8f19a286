mod Games
mod Idle
mod Wishes
