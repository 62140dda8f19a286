pub mod Answers
pub mod Asked
pub mod Causes
pub mod Exchanges
pub mod Responses
pub mod Spelt
pub mod Steps
pub mod Talk
