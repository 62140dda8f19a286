pub mod OneMore
pub mod Streaks
