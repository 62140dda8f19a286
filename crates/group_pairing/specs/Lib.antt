pub mod Lists
pub mod Keys
pub mod Least
pub mod Groups
pub mod Search
