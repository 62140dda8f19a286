pub mod GameTexts
pub mod Sent
